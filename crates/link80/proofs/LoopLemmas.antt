-- Steps of loops over modules by number.
use Rattle.std.specs.Prelude.{◌≡◌, ◌<◌, ◌≤◌, nat_lt, refl, ℕ, zero, suc, ◌+◌, length, map, [], Bool, ◌||◌, true, false}
use Rattle.std.specs.Prelude.{if◌then◌else◌, filter, filter_map, Option, Some, None, List, ◌∷◌, ◌++◌, drop, slice_get}
use Rattle.std.specs.List.{AllByRecursion, list_any, flat_map, enumerate_from, cons_option}
use Rattle.std.proofs.Common.{inl, inr, ◌∙◌, ap, sym, subst, arith, append_assoc, append-nil, get_or}
use Rattle.std.proofs.lemmas.Bool.{cases_Bool}
use Rattle.std.proofs.lemmas.Bool.Decides.{nat_tests}
use Rattle.std.proofs.lemmas.List.{drop_more, drop_all}
use Rattle.std.proofs.lemmas.Option.{slice_get_within, get_or_from_slice_get}
use Rattle.link80.specs.FirstSight.{with_name, with_names}

-- what is left begins with the one that is read
pub left_at : {A : Type 0} (xs : List A) (n : ℕ) (x : A) → slice_get xs n ≡ Some x → drop n xs ≡ x ∷ drop (n + 1) xs
left_at xs n x at = drop_more xs n x (slice_get_within xs n x at)
    ∙ ap (λ y. y ∷ drop (n + 1) xs) (get_or_from_slice_get xs n x x at)

-- what is made of each with its number
pub numbered_at : {A B : Type 0} (f : ℕ × A → List B) (xs : List A) (n : ℕ) (x : A) → slice_get xs n ≡ Some x →
    flat_map f (enumerate_from n (drop n xs)) ≡ f (n, x) ++ flat_map f (enumerate_from (n + 1) (drop (n + 1) xs))
numbered_at f xs n x at = ap (λ l. flat_map f (enumerate_from n l)) (left_at xs n x at)

-- what passes among the numbered ones that are left
pub passes_at : {A : Type 0} (test : ℕ × A → Bool) (xs : List A) (n : ℕ) (x : A) → slice_get xs n ≡ Some x →
    list_any test (enumerate_from n (drop n xs)) ≡ (test (n, x) || list_any test (enumerate_from (n + 1) (drop (n + 1) xs)))
passes_at test xs n x at = ap (λ l. list_any test (enumerate_from n l)) (left_at xs n x at)

-- one more is made of the list
pub one_more : {A B : Type 0} (f : A → B) (xs : List A) (i : ℕ) (x : A) (made : List B) (next : B) → i < length xs
    → x ≡ get_or xs i x → next ≡ f x →
    (made ++ next ∷ []) ++ map f (drop (i + 1) xs) ≡ made ++ map f (drop i xs)
one_more f xs i x made next inside is same =
    append_assoc made (next ∷ []) (map f (drop (i + 1) xs))
    ∙ ap (λ y. made ++ y ∷ map f (drop (i + 1) xs)) (same ∙ ap f is)
    ∙ ap (λ l. made ++ map f l) (sym (drop_more xs i x inside))

-- the same of the item itself
pub one_item_more : {A B : Type 0} (f : A → B) (xs : List A) (i : ℕ) (d : A) (made : List B) (next : B) → i < length xs
    → next ≡ f (get_or xs i d) →
    (made ++ next ∷ []) ++ map f (drop (i + 1) xs) ≡ made ++ map f (drop i xs)
one_item_more f xs i d made next inside same =
    append_assoc made (next ∷ []) (map f (drop (i + 1) xs))
    ∙ ap (λ y. made ++ y ∷ map f (drop (i + 1) xs)) same
    ∙ ap (λ l. made ++ map f l) (sym (drop_more xs i d inside))

-- something is left of the item, or nothing
pub one_left_more : {A B : Type 0} (f : A → Option B) (xs : List A) (i : ℕ) (d : A) (made : List B) (next : B) → i < length xs
    → f (get_or xs i d) ≡ Some next →
    (made ++ next ∷ []) ++ filter_map f (drop (i + 1) xs) ≡ made ++ filter_map f (drop i xs)
one_left_more {A} {B} f xs i d made next inside is =
    let rest : List B = filter_map f (drop (i + 1) xs) in
    append_assoc made (next ∷ []) rest ∙ ap (λ o. made ++ cons_option o rest) (sym is)
    ∙ ap (λ l. made ++ filter_map f l) (sym (drop_more xs i d inside))

pub none_left_more : {A B : Type 0} (f : A → Option B) (xs : List A) (i : ℕ) (d : A) (made : List B) → i < length xs
    → f (get_or xs i d) ≡ None →
    made ++ filter_map f (drop (i + 1) xs) ≡ made ++ filter_map f (drop i xs)
none_left_more {A} {B} f xs i d made inside is =
    let rest : List B = filter_map f (drop (i + 1) xs) in
    ap (λ o. made ++ cons_option o rest) (sym is) ∙ ap (λ l. made ++ filter_map f l) (sym (drop_more xs i d inside))

-- and what is made of one more with its number
pub more_numbered : {A B : Type 0} (f : ℕ × A → List B) (xs : List A) (n : ℕ) (x : A) (made : List B) → slice_get xs n ≡ Some x →
    (made ++ f (n, x)) ++ flat_map f (enumerate_from (n + 1) (drop (n + 1) xs)) ≡ made
    ++ flat_map f (enumerate_from n (drop n xs))
more_numbered f xs n x made at =
    append_assoc made (f (n, x)) (flat_map f (enumerate_from (n + 1) (drop (n + 1) xs)))
    ∙ ap (λ l. made ++ l) (sym (numbered_at f xs n x at))

-- where no more is left
pub all_made : {A B : Type 0} (f : ℕ × A → List B) (xs : List A) (n : ℕ) (made : List B) → length xs ≤ n
    → made ++ flat_map f (enumerate_from n (drop n xs)) ≡ made
all_made f xs n made past = ap (λ l. made ++ flat_map f (enumerate_from n l)) (drop_all n xs past) ∙ append-nil made

-- what holds of all holds of the one that is read
pub item_has : {A : Type 0} (P : A → Type 0) (xs : List A) (i : ℕ) (x : A) → AllByRecursion P xs → i < length xs
    → P (get_or xs i x)
item_has P [] i x all inside = absurd (omega (arith, inside))
item_has P (y ∷ ys) zero x all inside = all.0
item_has P (y ∷ ys) (suc i) x all inside = item_has P ys i x all.1 (omega (arith, inside))

pub all_item : {A : Type 0} (P : A → Type 0) (xs : List A) (i : ℕ) (x : A) → AllByRecursion P xs → i < length xs
    → x ≡ get_or xs i x → P x
all_item P xs i x all inside is = subst P (sym is) (item_has P xs i x all inside)

-- what holds of those before, and of the one that is read
pub one_further : {A : Type 0} (P : A → Type 0) (xs : List A) (n : ℕ) (x : A) → slice_get xs n ≡ Some x
    → ((k : ℕ) (y : A) → k < n → slice_get xs k ≡ Some y → P y) → P x →
    (k : ℕ) (y : A) → k < n + 1 → slice_get xs k ≡ Some y → P y
one_further P xs n x at before here k y below is = elim (cases_Bool (nat_lt k n)) [
  | inl less ↦ before k y (grind (arith, nat_tests, less)) is
  | inr not_less ↦
      let same : k ≡ n = grind (arith, nat_tests, not_less, below) in
      subst P (some_is x y (sym at ∙ ap (slice_get xs) (sym same) ∙ is)) here
]
  where
    some_is : {B : Type 0} (a b : B) → Some a ≡ Some b → a ≡ b
    some_is a b e = cc

pub holds_of_all : {A : Type 0} (P : A → Type 0) (xs : List A) → ((k : ℕ) (y : A) → slice_get xs k ≡ Some y → P y)
    → AllByRecursion P xs
holds_of_all P [] each = tt
holds_of_all P (x ∷ xs) each = (each 0 x refl, holds_of_all P xs (λ k y at. each (suc k) y at))

-- one more name is put to the names
pub one_name_more : {A : Type 0} (name : A → List ℕ) (xs : List A) (i : ℕ) (x : A) (names : List (List ℕ)) → i < length xs
    → x ≡ get_or xs i x →
    with_names (with_name names (name x)) (map name (drop (i + 1) xs)) ≡ with_names names (map name (drop i xs))
one_name_more name xs i x names inside is =
    ap (λ y. with_names (with_name names (name y)) (map name (drop (i + 1) xs))) is
    ∙ ap (λ l. with_names names (map name l)) (sym (drop_more xs i x inside))

-- and where it passes a test
pub one_new_more : (test : List ℕ → Bool) (xs : List (List ℕ)) (i : ℕ) (x : List ℕ) (names : List (List ℕ)) → i < length xs
    → x ≡ get_or xs i x → test x ≡ true →
    with_names (with_name names x) (filter test (drop (i + 1) xs)) ≡ with_names names (filter test (drop i xs))
one_new_more test xs i x names inside is passes =
    let rest : List (List ℕ) = drop (i + 1) xs in
    ap (λ b. with_names names (if b then x ∷ filter test rest else filter test rest)) (sym passes)
    ∙ ap (λ y. with_names names (filter test (y ∷ rest))) is
    ∙ ap (λ l. with_names names (filter test l)) (sym (drop_more xs i x inside))

pub no_new_more : (test : List ℕ → Bool) (xs : List (List ℕ)) (i : ℕ) (x : List ℕ) (names : List (List ℕ)) → i < length xs
    → x ≡ get_or xs i x → test x ≡ false →
    with_names names (filter test (drop (i + 1) xs)) ≡ with_names names (filter test (drop i xs))
no_new_more test xs i x names inside is fails =
    let rest : List (List ℕ) = drop (i + 1) xs in
    ap (λ b. with_names names (if b then x ∷ filter test rest else filter test rest)) (sym fails)
    ∙ ap (λ y. with_names names (filter test (y ∷ rest))) is
    ∙ ap (λ l. with_names names (filter test l)) (sym (drop_more xs i x inside))

-- one more with its number
pub one_numbered_more : {A : Type 0} (xs : List A) (i n : ℕ) (d : A) (made : List (ℕ × A)) → i < length xs →
    (made ++ (n, get_or xs i d) ∷ []) ++ enumerate_from (n + 1) (drop (i + 1) xs) ≡ made ++ enumerate_from n (drop i xs)
one_numbered_more xs i n d made inside =
    append_assoc made ((n, get_or xs i d) ∷ []) (enumerate_from (n + 1) (drop (i + 1) xs))
    ∙ ap (λ l. made ++ enumerate_from n l) (sym (drop_more xs i d inside))
