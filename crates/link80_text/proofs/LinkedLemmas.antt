-- The modules that are linked: the roots, and those at the places that were taken.
use Rattle.std.specs.Prelude.{◌≡◌, ℕ, zero, suc, ◌+◌, ◌-◌, ◌<◌, ◌≤◌, ◌⊎◌, Option, Some, List, [], ◌∷◌, ◌++◌, filter_map, length, slice_get, Contains, refl}
use Rattle.std.specs.List.{AllByRecursion, cons_option}
use Rattle.std.proofs.Common.{◌∙◌, ap, sym, subst, arith, inl, inr}
use Rattle.std.proofs.lemmas.Bool.{cases_lt}
use Rattle.std.proofs.lemmas.Option.{none-some, same_Some, slice_get_within, get_or_from_slice_get}
use Rattle.omf_model.specs.Modules.{ModuleValue}
use Rattle.link80_select.specs.declared.chosen.Chosen.{Chosen}
use Rattle.link80_select.specs.Selected.{module_at, IsBefore, Needs, IsChosen, by_root, by_member, AreAscending}
use Rattle.link80.specs.Selection.{IsSelection, modules_with}
use Rattle.link80_text.specs.Reasons.{IsSoughtAt}

-- ---- lists

at_right : {A : Type 0} (xs ys : List A) (k : ℕ) → slice_get (xs ++ ys) (length xs + k) ≡ slice_get ys k
at_right [] ys k = ap (slice_get ys) (omega arith)
at_right (x ∷ xs) ys k = let e : length (x ∷ xs) + k ≡ suc (length xs + k) = omega arith in ap (slice_get (x ∷ (xs ++ ys))) e
    ∙ at_right xs ys k

all_at : {A : Type 0} (P : A → Type 0) (xs : List A) (k : ℕ) (x : A) → AllByRecursion P xs → slice_get xs k ≡ Some x → P x
all_at P [] k x all at = absurd (none-some x at)
all_at P (y ∷ xs) zero x all at = subst P (same_Some y x at) all.0
all_at P (y ∷ xs) (suc k) x all at = all_at P xs k x all.1 at

pub has_at : {A : Type 0} (xs : List A) (i : ℕ) (x : A) → slice_get xs i ≡ Some x → Contains xs x
has_at xs i x at = (i, slice_get_within xs i x at, get_or_from_slice_get xs i x x at)

at_front : {A : Type 0} (xs ys : List A) (k : ℕ) → k < length xs → slice_get (xs ++ ys) k ≡ slice_get xs k
at_front [] ys k less = absurd (omega (arith, less))
at_front (x ∷ xs) ys zero less = refl
at_front (x ∷ xs) ys (suc k) less = at_front xs ys k (omega arith)

at_back : {A : Type 0} (xs ys : List A) (k : ℕ) → length xs ≤ k
    → (j : ℕ) × (k ≡ length xs + j) × (slice_get (xs ++ ys) k ≡ slice_get ys j)
at_back xs ys k more =
    let e : k ≡ length xs + (k - length xs) = omega arith in
    (k - length xs, e, ap (slice_get (xs ++ ys)) e ∙ at_right xs ys (k - length xs))

-- where each item gives something, what they give stands at their numbers
pub gives_at : {A B : Type 0} (f : A → Option B) (xs : List A) (k : ℕ) (x : A)
    → ((i : ℕ) (y : A) → slice_get xs i ≡ Some y → (z : B) × (f y ≡ Some z)) → slice_get xs k ≡ Some x
    → slice_get (filter_map f xs) k ≡ f x
gives_at f [] k x each at = absurd (none-some x at)
gives_at {A} {B} f (y ∷ xs) k x each at =
    let first = each 0 y refl in
    ap (λ (o : Option B). slice_get (cons_option o (filter_map f xs)) k) first.1
    ∙ by k at first.0 first.1 (λ i at_i. gives_at f xs i x (λ j z there. each (suc j) z there) at_i)
  where
    by : (i : ℕ) → slice_get (y ∷ xs) i ≡ Some x → (z : B) → f y ≡ Some z
        → ((j : ℕ) → slice_get xs j ≡ Some x → slice_get (filter_map f xs) j ≡ f x) → slice_get (z ∷ filter_map f xs) i ≡ f x
    by zero here z is rest = sym is ∙ ap f (same_Some y x here)
    by (suc i) here z is rest = rest i here

pub given_at : {A B : Type 0} (f : A → Option B) (xs : List A) (k : ℕ) (z : B)
    → ((i : ℕ) (y : A) → slice_get xs i ≡ Some y → (v : B) × (f y ≡ Some v)) → slice_get (filter_map f xs) k ≡ Some z
    → (x : A) × (slice_get xs k ≡ Some x) × (f x ≡ Some z)
given_at f [] k z each at = absurd (none-some z at)
given_at {A} {B} f (y ∷ xs) k z each at =
    let first = each 0 y refl in
    by k first.0 first.1 (sym (ap (λ (o : Option B). slice_get (cons_option o (filter_map f xs)) k) first.1) ∙ at)
    (λ i at_i. given_at f xs i z (λ j u there. each (suc j) u there) at_i)
  where
    by : (i : ℕ) (v : B) → f y ≡ Some v → slice_get (v ∷ filter_map f xs) i ≡ Some z
        → ((j : ℕ) → slice_get (filter_map f xs) j ≡ Some z → (x : A) × (slice_get xs j ≡ Some x) × (f x ≡ Some z))
        → (x : A) × (slice_get (y ∷ xs) i ≡ Some x) × (f x ≡ Some z)
    by zero v is here rest = (y, refl, is ∙ here)
    by (suc i) v is here rest = rest i here

gives_length : {A B : Type 0} (f : A → Option B) (xs : List A)
    → ((i : ℕ) (y : A) → slice_get xs i ≡ Some y → (z : B) × (f y ≡ Some z)) → length (filter_map f xs) ≡ length xs
gives_length f [] each = refl
gives_length {A} {B} f (y ∷ xs) each =
    let first = each 0 y refl in
    ap (λ (o : Option B). length (cons_option o (filter_map f xs))) first.1
    ∙ ap suc (gives_length f xs (λ i z there. each (suc i) z there))

pub ascending_order : (ps : List Chosen) (j k : ℕ) (p q : Chosen) → AreAscending ps → j < k → slice_get ps j ≡ Some p
    → slice_get ps k ≡ Some q → IsBefore p q
ascending_order [] j k p q up less at_j at_k = absurd (none-some p at_j)
ascending_order (x ∷ ps) zero zero p q up less at_j at_k = absurd (omega (arith, less))
ascending_order (x ∷ ps) zero (suc k) p q up less at_j at_k =
    subst (λ (y : Chosen). IsBefore y q) (same_Some x p at_j) (all_at (IsBefore x) ps k q up.0 at_k)
ascending_order (x ∷ ps) (suc j) zero p q up less at_j at_k = absurd (omega (arith, less))
ascending_order (x ∷ ps) (suc j) (suc k) p q up less at_j at_k = ascending_order ps j k p q up.1 (omega arith) at_j at_k

-- ---- the modules that are linked

module _ (roots : List ModuleValue) (libraries : List (List ModuleValue)) (taken : List Chosen)
    (selection : IsSelection roots libraries taken) where
  needed_module : (m : ModuleValue) (p : Chosen) → Needs roots libraries m p → (k : ModuleValue) × (module_at libraries p ≡ Some k)
  needed_module m p needs = (needs.first.provider, needs.first.there)

  chosen_module : (p : Chosen) → IsChosen roots libraries p → (m : ModuleValue) × (module_at libraries p ≡ Some m)
  chosen_module p (by_root r _ has needs) = needed_module r p needs
  chosen_module p (by_member q _ m from at needs) = needed_module m p needs

  pub each_module : (i : ℕ) (p : Chosen) → slice_get taken i ≡ Some p → (m : ModuleValue) × (module_at libraries p ≡ Some m)
  each_module i p at = chosen_module p ((selection.chosen p).0 (has_at taken i p at))

  pub root_module : (n : ℕ) (m : ModuleValue) → slice_get roots n ≡ Some m → slice_get (modules_with roots libraries taken) n ≡ Some m
  root_module n m at =
      at_front roots (filter_map (module_at libraries) taken) n (slice_get_within roots n m at) ∙ at

  pub member_module : (k : ℕ) (p : Chosen) (m : ModuleValue) → slice_get taken k ≡ Some p → module_at libraries p ≡ Some m
      → slice_get (modules_with roots libraries taken) (length roots + k) ≡ Some m
  member_module k p m at there =
      at_right roots (filter_map (module_at libraries) taken) k ∙ gives_at (module_at libraries) taken k p each_module at ∙ there

  -- a linked module is a root, or stands at a place that was taken
  pub linked_is : (n : ℕ) (m : ModuleValue) → slice_get (modules_with roots libraries taken) n ≡ Some m →
      ((n < length roots) × Contains roots m)
      ⊎ ((k : ℕ) × (n ≡ length roots + k) × ((p : Chosen) × (slice_get taken k ≡ Some p) × (module_at libraries p ≡ Some m)))
  linked_is n m at = elim (cases_lt n (length roots)) [
    | inl less ↦ inl (less, has_at roots n m (sym (at_front roots (filter_map (module_at libraries) taken) n less) ∙ at))
    | inr more ↦
        let back = at_back roots (filter_map (module_at libraries) taken) n more in
        inr (back.0, back.1, given_at (module_at libraries) taken back.0 m each_module (sym back.2 ∙ at))
  ]

  pub linked_takes : (n : ℕ) (m : ModuleValue) (p : Chosen) → slice_get (modules_with roots libraries taken) n ≡ Some m
      → Needs roots libraries m p → Contains taken p
  linked_takes n m p at needs = (selection.chosen p).1 (elim (linked_is n m at) [
    | inl one ↦ by_root m p one.1 needs
    | inr other ↦ by_member other.2.0 p m ((selection.chosen other.2.0).0 (has_at taken other.0 other.2.0 other.2.1)) other.2.2 needs
  ])

  pub needs_for : (m : ModuleValue) (index : ℕ) (name : List ℕ) (p : Chosen) → slice_get m.externals index ≡ Some name
      → IsSoughtAt roots libraries name p → Needs roots libraries m p
  needs_for m index name p at sought = record {
    name = name;
    external = has_at m.externals index name at;
    in_no_root = sought.in_no_root;
    first = sought.first;
  }
