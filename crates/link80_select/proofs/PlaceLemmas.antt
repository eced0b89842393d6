-- The places of library modules in order, and those of them with a mark.
use Rattle.std.specs.Prelude.{◌≡◌, ℕ, zero, suc, ◌+◌, ◌<◌, Bool, true, false, Some, option_and_then, List, [], ◌∷◌, ◌++◌, slice_get, length, min, Contains, refl}
use Rattle.std.specs.List.{AllByRecursion, AllZip}
use Rattle.std.proofs.Common.{◌∙◌, ap, subst, arith, inl, inr, drop}
use Rattle.std.proofs.lemmas.Bool.{false≢true, cases_lt}
use Rattle.std.proofs.lemmas.List.{drop_all}
use Rattle.std.proofs.lemmas.List.Elements.{Contains-append_left, Contains-append_right, Contains-append_cases}
use Rattle.std.proofs.lemmas.Option.{none-some, same_Some, option_and_then_some}
use Rattle.omf_model.specs.Modules.{ModuleValue}
use Rattle.link80_select.specs.declared.chosen.Chosen.{Chosen}
use Rattle.link80_select.specs.Selected.{module_at, IsBefore, AreAscending}
use Rattle.link80_select.specs.Selecting.{members, places_in, places_from, marked_places, is_marked}
use Rattle.link80_select.proofs.MarkLemmas.{has_one, is_one, has_none}

-- ---- facts of each element

all_append : {A : Type 0} (P : A → Type 0) (xs ys : List A) → AllByRecursion P xs → AllByRecursion P ys
    → AllByRecursion P (xs ++ ys)
all_append P [] ys one two = two
all_append P (x ∷ xs) ys one two = (one.0, all_append P xs ys one.1 two)

pub all_at : {A : Type 0} (P : A → Type 0) (xs : List A) (k : ℕ) (x : A) → AllByRecursion P xs → slice_get xs k ≡ Some x → P x
all_at P [] k x all at = absurd (none-some x at)
all_at P (y ∷ xs) zero x all at = subst P (same_Some y x at) all.0
all_at P (y ∷ xs) (suc k) x all at = all_at P xs k x all.1 at

zip_append : {A B : Type 0} (R : A → B → Type 0) (xs us : List A) (ys vs : List B) → AllZip R xs ys → AllZip R us vs
    → AllZip R (xs ++ us) (ys ++ vs)
zip_append R [] us [] vs one two = two
zip_append R [] us (y ∷ ys) vs one two = absurd one
zip_append R (x ∷ xs) us [] vs one two = absurd one
zip_append R (x ∷ xs) us (y ∷ ys) vs one two = (one.0, zip_append R xs us ys vs one.1 two)

-- ---- order

abbrev place : (library number : ℕ) → Chosen
place library number = record { library = library; «module» = number }

pub never_both : (p q : Chosen) → IsBefore p q → IsBefore q p → ⊥
never_both p q before after = omega (arith, before, after)

next_in : (p : Chosen) (library at : ℕ) → IsBefore p (place library at) → IsBefore p (place library (at + 1))
next_in p library at before = elim before [ inl less ↦ inl less | inr same ↦ inr (same.0, (let lower = same.1 in omega arith)) ]

after_in : (p : Chosen) (library at : ℕ) (ms : List ModuleValue) → IsBefore p (place library at)
    → AllByRecursion (IsBefore p) (places_in library at ms)
after_in p library at [] before = tt
after_in p library at (m ∷ ms) before = (before, after_in p library (at + 1) ms (next_in p library at before))

after_from : (p : Chosen) (at : ℕ) (libraries : List (List ModuleValue)) → p.library < at
    → AllByRecursion (IsBefore p) (places_from at libraries)
after_from p at [] before = tt
after_from p at (l ∷ ls) before =
    all_append (IsBefore p) (places_in at 0 l) (places_from (at + 1) ls) (after_in p at 0 l (inl before))
    (after_from p (at + 1) ls (omega arith))

ascending_more : (library at next : ℕ) (ms : List ModuleValue) (ls : List (List ModuleValue)) → library < next
    → AreAscending (places_from next ls) →
    AreAscending (places_in library at ms ++ places_from next ls)
ascending_more library at next [] ls less rest = rest
ascending_more library at next (m ∷ ms) ls less rest = (
  all_append (IsBefore (place library at)) (places_in library (at + 1) ms) (places_from next ls)
      (after_in (place library at) library (at + 1) ms (inr (refl, omega arith))) (after_from (place library at) next ls less),
  ascending_more library (at + 1) next ms ls less rest,
)

pub places_ascend : (at : ℕ) (libraries : List (List ModuleValue)) → AreAscending (places_from at libraries)
places_ascend at [] = tt
places_ascend at (l ∷ ls) = ascending_more at 0 (at + 1) l ls (omega arith) (places_ascend (at + 1) ls)

pub in_order : (ps : List Chosen) (j k : ℕ) (p q : Chosen) → AreAscending ps → j < k → slice_get ps j ≡ Some p
    → slice_get ps k ≡ Some q → IsBefore p q
in_order [] j k p q up less at_j at_k = absurd (none-some p at_j)
in_order (x ∷ ps) zero zero p q up less at_j at_k = absurd (omega (arith, less))
in_order (x ∷ ps) zero (suc k) p q up less at_j at_k =
    subst (λ (y : Chosen). IsBefore y q) (same_Some x p at_j) (all_at (IsBefore x) ps k q up.0 at_k)
in_order (x ∷ ps) (suc j) zero p q up less at_j at_k = absurd (omega (arith, less))
in_order (x ∷ ps) (suc j) (suc k) p q up less at_j at_k = in_order ps j k p q up.1 (omega arith) at_j at_k

-- ---- which module stands at a place

abbrev pub Stands : List (List ModuleValue) → Chosen → ModuleValue → Type 0
Stands libraries p m = module_at libraries p ≡ Some m

stand_in : (libraries : List (List ModuleValue)) (library at : ℕ) (l ms : List ModuleValue)
    → slice_get libraries library ≡ Some l →
    ((j : ℕ) (m : ModuleValue) → slice_get ms j ≡ Some m → slice_get l (at + j) ≡ Some m)
    → AllZip (Stands libraries) (places_in library at ms) ms
stand_in libraries library at l [] is same = tt
stand_in libraries library at l (m ∷ ms) is same = (
  ap (option_and_then (λ modules. slice_get modules at)) is ∙ ap (slice_get l) (omega arith) ∙ same 0 m refl,
  stand_in libraries library (at + 1) l ms is (λ j n there. ap (slice_get l) (omega arith) ∙ same (suc j) n there),
)

stand_from : (whole libraries : List (List ModuleValue)) (at : ℕ) →
    ((i : ℕ) (l : List ModuleValue) → slice_get libraries i ≡ Some l → slice_get whole (at + i) ≡ Some l)
    → AllZip (Stands whole) (places_from at libraries) (members libraries)
stand_from whole [] at same = tt
stand_from whole (l ∷ ls) at same = zip_append (Stands whole) (places_in at 0 l) (places_from (at + 1) ls) l (members ls)
    (stand_in whole at 0 l l (ap (slice_get whole) (omega arith) ∙ same 0 l refl) (λ j m there. ap (slice_get l) (omega arith)
    ∙ there))
    (stand_from whole ls (at + 1) (λ i m there. ap (slice_get whole) (omega arith) ∙ same (suc i) m there))

pub places_stand : (libraries : List (List ModuleValue)) → AllZip (Stands libraries) (places_from 0 libraries) (members libraries)
places_stand libraries = stand_from libraries libraries 0 (λ i l there. ap (slice_get libraries) (omega arith) ∙ there)

has_in : (library at j : ℕ) (ms : List ModuleValue) (m : ModuleValue) → slice_get ms j ≡ Some m
    → Contains (places_in library at ms) (place library (at + j))
has_in library at j [] m there = absurd (none-some m there)
has_in library at zero (n ∷ ms) m there =
    Contains-append_left (place library at ∷ []) (places_in library (at + 1) ms) (place library (at + 0))
    (is_one (place library at) _ (ap (place library) (omega arith)))
has_in library at (suc j) (n ∷ ms) m there =
    Contains-append_right (place library at ∷ []) (places_in library (at + 1) ms) (place library (at + suc j))
    (subst (λ (x : ℕ). Contains (places_in library (at + 1) ms) (place library x)) (omega arith)
    (has_in library (at + 1) j ms m there))

has_from : (at i j : ℕ) (libraries : List (List ModuleValue)) (l : List ModuleValue) (m : ModuleValue)
    → slice_get libraries i ≡ Some l → slice_get l j ≡ Some m →
    Contains (places_from at libraries) (place (at + i) j)
has_from at i j [] l m library there = absurd (none-some l library)
has_from at zero j (k ∷ ls) l m library there =
    Contains-append_left (places_in at 0 k) (places_from (at + 1) ls) (place (at + 0) j)
    (subst (λ (p : Chosen). Contains (places_in at 0 k) p) (ap (place at) (omega arith) ∙ ap (λ x. place x j) (omega arith))
    (has_in at 0 j k m (ap (λ (x : List ModuleValue). slice_get x j) (same_Some k l library) ∙ there)))
has_from at (suc i) j (k ∷ ls) l m library there =
    Contains-append_right (places_in at 0 k) (places_from (at + 1) ls) (place (at + suc i) j)
    (subst (λ (x : ℕ). Contains (places_from (at + 1) ls) (place x j)) (omega arith) (has_from (at + 1) i j ls l m library there))

pub has_place : (libraries : List (List ModuleValue)) (p : Chosen) (m : ModuleValue) → module_at libraries p ≡ Some m
    → Contains (places_from 0 libraries) p
has_place libraries p m there =
    option_and_then_some (λ modules. slice_get modules p.module) (slice_get libraries p.library) m there (λ l library inside.
    subst (λ (x : ℕ). Contains (places_from 0 libraries) (place x p.module)) (omega arith)
    (has_from 0 p.library p.module libraries l m library inside))

-- ---- marked places

all_marked : (P : Chosen → Type 0) (ps : List Chosen) (marked : List Bool) → AllByRecursion P ps
    → AllByRecursion P (marked_places ps marked)
all_marked P [] marked all = tt
all_marked P (p ∷ ps) [] all = tt
all_marked P (p ∷ ps) (true ∷ bs) all = (all.0, all_marked P ps bs all.1)
all_marked P (p ∷ ps) (false ∷ bs) all = all_marked P ps bs all.1

pub marked_ascend : (ps : List Chosen) (marked : List Bool) → AreAscending ps → AreAscending (marked_places ps marked)
marked_ascend [] marked up = tt
marked_ascend (p ∷ ps) [] up = tt
marked_ascend (p ∷ ps) (true ∷ bs) up = (all_marked (IsBefore p) ps bs up.0, marked_ascend ps bs up.1)
marked_ascend (p ∷ ps) (false ∷ bs) up = marked_ascend ps bs up.1

abbrev pub HasMark : List Chosen → List Bool → Chosen → Type 0
HasMark ps marked p = (k : ℕ) × (slice_get ps k ≡ Some p) × (is_marked marked k ≡ true)

pub mark_of : (ps : List Chosen) (marked : List Bool) (p : Chosen) → Contains (marked_places ps marked) p → HasMark ps marked p
mark_of [] marked p has = absurd (has_none p has)
mark_of (q ∷ ps) [] p has = absurd (has_none p has)
mark_of (q ∷ ps) (true ∷ bs) p has = elim (Contains-append_cases (q ∷ []) (marked_places ps bs) p has) [
  | inl first ↦ (0, ap (λ x. Some x) (has_one q p first), refl)
  | inr later ↦ let at = mark_of ps bs p later in (suc at.0, at.1, at.2)
]
mark_of (q ∷ ps) (false ∷ bs) p has = let at = mark_of ps bs p has in (suc at.0, at.1, at.2)

pub marked_has : (ps : List Chosen) (marked : List Bool) (p : Chosen) (k : ℕ) → slice_get ps k ≡ Some p
    → is_marked marked k ≡ true → Contains (marked_places ps marked) p
marked_has [] marked p k at is = absurd (none-some p at)
marked_has (q ∷ ps) [] p k at is = absurd (false≢true is)
marked_has (q ∷ ps) (true ∷ bs) p zero at is =
    Contains-append_left (q ∷ []) (marked_places ps bs) p (is_one q p (same_Some q p at))
marked_has (q ∷ ps) (false ∷ bs) p zero at is = absurd (false≢true is)
marked_has (q ∷ ps) (true ∷ bs) p (suc k) at is =
    Contains-append_right (q ∷ []) (marked_places ps bs) p (marked_has ps bs p k at is)
marked_has (q ∷ ps) (false ∷ bs) p (suc k) at is = marked_has ps bs p k at is

none_marked : (ps : List Chosen) → marked_places ps [] ≡ []
none_marked [] = refl
none_marked (p ∷ ps) = refl

pub marked_end : (ps : List Chosen) (marked : List Bool) (n : ℕ) → n ≡ min (length ps) (length marked)
    → marked_places (drop n ps) (drop n marked) ≡ []
marked_end ps marked n is = elim (cases_lt n (length ps)) [
  | inl less ↦ ap (marked_places (drop n ps)) (drop_all n marked (omega (arith, less, is))) ∙ none_marked (drop n ps)
  | inr all ↦ ap (λ x. marked_places x (drop n marked)) (drop_all n ps all)
]
