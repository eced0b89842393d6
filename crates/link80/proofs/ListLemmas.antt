-- Lists that are mapped, joined and searched.
use Rattle.std.specs.Prelude.{◌≡◌, Bool, true, false, ◌||◌, Option, Some, None, option_map, List, [], ◌∷◌, ◌++◌, find, map, refl}
use Rattle.std.specs.List.{list_any, flat_map, AllByRecursion}
use Rattle.std.specs.Option.{option_map_or}
use Rattle.std.proofs.Common.{◌∙◌, ap, sym, cond}
use Rattle.std.proofs.lemmas.Bool.{or_parts}

pub map_append : {A B : Type 0} (f : A → B) (xs ys : List A) → map f (xs ++ ys) ≡ map f xs ++ map f ys
map_append f [] ys = refl
map_append f (x ∷ xs) ys = ap (λ l. f x ∷ l) (map_append f xs ys)

pub map_map : {A B C : Type 0} (f : B → C) (g : A → B) (xs : List A) → map f (map g xs) ≡ map (λ x. f (g x)) xs
map_map f g [] = refl
map_map f g (x ∷ xs) = ap (λ l. f (g x) ∷ l) (map_map f g xs)

-- a map over lists that are joined
pub map_flat : {A B C : Type 0} (f : B → C) (g : A → List B) (xs : List A)
    → map f (flat_map g xs) ≡ flat_map (λ x. map f (g x)) xs
map_flat f g [] = refl
map_flat f g (x ∷ xs) = map_append f (g x) (flat_map g xs) ∙ ap (λ l. map f (g x) ++ l) (map_flat f g xs)

pub all_both : {A : Type 0} (P Q : A → Type 0) (xs : List A) → AllByRecursion P xs → AllByRecursion Q xs
    → AllByRecursion (λ x. P x × Q x) xs
all_both P Q [] p q = _
all_both P Q (x ∷ xs) p q = ((p.0, q.0), all_both P Q xs p.1 q.1)

pub flat_same : {A B : Type 0} (P : A → Type 0) (f g : A → List B) → ((x : A) → P x → f x ≡ g x) → (xs : List A)
    → AllByRecursion P xs → flat_map f xs ≡ flat_map g xs
flat_same P f g same [] all = refl
flat_same P f g same (x ∷ xs) all = ap (λ l. l ++ flat_map f xs) (same x all.0)
    ∙ ap (λ l. g x ++ l) (flat_same P f g same xs all.1)

pub map_same : {A B : Type 0} (P : A → Type 0) (f g : A → B) → ((x : A) → P x → f x ≡ g x) → (xs : List A) → AllByRecursion P xs
    → map f xs ≡ map g xs
map_same P f g same [] all = refl
map_same P f g same (x ∷ xs) all = ap (λ y. y ∷ map f xs) (same x all.0) ∙ ap (λ l. g x ∷ l) (map_same P f g same xs all.1)

-- what passes in lists that are joined
any_append : {A : Type 0} (test : A → Bool) (xs ys : List A) → list_any test (xs ++ ys) ≡ (list_any test xs || list_any test ys)
any_append test [] ys = refl
any_append test (x ∷ xs) ys =
    elim (test x) as (λ b. (b || list_any test (xs ++ ys)) ≡ ((b || list_any test xs) || list_any test ys)) [
      | true ↦
          refl
      | false ↦ any_append test xs ys
    ]

pub any_front : {A : Type 0} (test : A → Bool) (xs ys : List A) → list_any test xs ≡ true → list_any test (xs ++ ys) ≡ true
any_front test xs ys here = any_append test xs ys ∙ ap (λ b. b || list_any test ys) here

pub any_back : {A : Type 0} (test : A → Bool) (xs ys : List A) → list_any test ys ≡ true → list_any test (xs ++ ys) ≡ true
any_back test [] ys here = here
any_back test (x ∷ xs) ys here =
    elim (test x) as (λ b. (b || list_any test (xs ++ ys)) ≡ true) [ true ↦ refl | false ↦ any_back test xs ys here ]

none_append : {A : Type 0} (test : A → Bool) (xs ys : List A) → list_any test (xs ++ ys) ≡ false
    → (list_any test xs ≡ false) × (list_any test ys ≡ false)
none_append test xs ys none = or_parts (list_any test xs) (list_any test ys) (sym (any_append test xs ys) ∙ none)

pub none_flat : {A B : Type 0} (test : B → Bool) (f : A → List B) (xs : List A) → list_any test (flat_map f xs) ≡ false
    → AllByRecursion (λ x. list_any test (f x) ≡ false) xs
none_flat test f [] none = _
none_flat test f (x ∷ xs) none = let parts = none_append test (f x) (flat_map f xs) none in (parts.0, none_flat test f xs parts.1)

pub none_map : {A B : Type 0} (test : B → Bool) (f : A → B) (xs : List A) → list_any test (map f xs) ≡ false
    → AllByRecursion (λ x. test (f x) ≡ false) xs
none_map test f [] none = _
none_map test f (x ∷ xs) none = let parts = or_parts (test (f x)) (list_any test (map f xs)) none in
    (parts.0, none_map test f xs parts.1)

-- what is found among what is made
pub find_map : {A B : Type 0} (make : A → B) (test : B → Bool) (xs : List A)
    → find test (map make xs) ≡ option_map make (find (λ x. test (make x)) xs)
find_map make test [] = refl
find_map make test (x ∷ xs) =
    elim (test (make x)) as (λ b. cond b (Some (make x)) (find test (map make xs))
    ≡ option_map make (cond b (Some x) (find (λ y. test (make y)) xs))) [ true ↦ refl | false ↦ find_map make test xs ]

pub map_or_map : {A B C : Type 0} (f : B → C) (g : A → B) (o : Option A) (d : C)
    → option_map_or f (option_map g o) d ≡ option_map_or (λ x. f (g x)) o d
map_or_map f g None d = refl
map_or_map f g (Some x) d = refl
