-- What is reached along a row of modules is what is chosen.
use Rattle.std.specs.Prelude.{◌≡◌, ◌↔◌, ℕ, zero, suc, ◌+◌, ◌-◌, ◌<◌, ◌≤◌, ◌⊎◌, Bool, true, false, Option, Some, None, List, [], ◌∷◌, ◌++◌, slice_get, filter_map, length, Contains, IfSome, refl}
use Rattle.std.specs.List.{AllZip, list_any, position_from, cons_option}
use Rattle.std.proofs.Common.{◌∙◌, ap, sym, subst, arith, inl, inr, cond, drop, get_or}
use Rattle.std.proofs.lemmas.Bool.{cases_lt, cases_order, or_parts, or_from}
use Rattle.std.proofs.lemmas.Iterator.Adapters.{position_from-zero}
use Rattle.std.proofs.lemmas.List.{get_or-drop}
use Rattle.std.proofs.lemmas.List.Quantifiers.{position-Some}
use Rattle.std.proofs.lemmas.List.Elements.{Contains-append_left, Contains-append_right, Contains-append_cases}
use Rattle.std.proofs.lemmas.Option.{none-some, same_Some, slice_get_within, slice_get-get_or}
use Rattle.omf_model.specs.Modules.{ModuleValue}
use Rattle.omf_library.specs.Providers.{declares, first_provider}
use Rattle.link80_select.specs.declared.chosen.Chosen.{Chosen}
use Rattle.link80_select.specs.Selected.{module_at, IsBefore, IsFirstProvider, Needs, IsChosen, by_root, by_member, AreAscending}
use Rattle.link80_select.specs.Selecting.{members, places_from, marked_places, IsReached, root, needed_by, AreReached}
use Rattle.link80_select.proofs.MarkLemmas.{has_none, has_one, is_one, has_at, at_has, at_left}
use Rattle.link80_select.proofs.PlaceLemmas.{Stands, places_stand, has_place, places_ascend, in_order, never_both, marked_ascend, mark_of, marked_has}

-- ---- parts of a row

at_right : {A : Type 0} (xs ys : List A) (k : ℕ) → slice_get (xs ++ ys) (length xs + k) ≡ slice_get ys k
at_right [] ys k = ap (slice_get ys) (omega arith)
at_right (x ∷ xs) ys k = let e : length (x ∷ xs) + k ≡ suc (length xs + k) = omega arith in ap (slice_get (x ∷ (xs ++ ys))) e
    ∙ at_right xs ys k

at_front : {A : Type 0} (xs ys : List A) (k : ℕ) → k < length xs → slice_get (xs ++ ys) k ≡ slice_get xs k
at_front [] ys k less = absurd (omega (arith, less))
at_front (x ∷ xs) ys zero less = refl
at_front (x ∷ xs) ys (suc k) less = at_front xs ys k (omega arith)

at_back : {A : Type 0} (xs ys : List A) (k : ℕ) → length xs ≤ k
    → (j : ℕ) × (k ≡ length xs + j) × (slice_get (xs ++ ys) k ≡ slice_get ys j)
at_back xs ys k more =
    let e : k ≡ length xs + (k - length xs) = omega arith in
    (k - length xs, e, ap (slice_get (xs ++ ys)) e ∙ at_right xs ys (k - length xs))

-- an element of one of two lists side by side has one beside it
beside : {A B : Type 0} (R : A → B → Type 0) (xs : List A) (ys : List B) (k : ℕ) (y : B) → AllZip R xs ys
    → slice_get ys k ≡ Some y → (x : A) × (slice_get xs k ≡ Some x) × R x y
beside R [] [] k y zip at = absurd (none-some y at)
beside R [] (v ∷ ys) k y zip at = absurd zip
beside R (u ∷ xs) [] k y zip at = absurd zip
beside R (u ∷ xs) (v ∷ ys) zero y zip at = (u, refl, subst (R u) (same_Some v y at) zip.0)
beside R (u ∷ xs) (v ∷ ys) (suc k) y zip at = beside R xs ys k y zip.1 at

agrees : {A B : Type 0} (R : A → B → Type 0) (xs : List A) (ys : List B) (k : ℕ) (x : A) → AllZip R xs ys
    → slice_get xs k ≡ Some x → (y : B) × (slice_get ys k ≡ Some y) × R x y
agrees R [] [] k x zip at = absurd (none-some x at)
agrees R [] (v ∷ ys) k x zip at = absurd zip
agrees R (u ∷ xs) [] k x zip at = absurd zip
agrees R (u ∷ xs) (v ∷ ys) zero x zip at = (v, refl, subst (λ z. R z v) (same_Some u x at) zip.0)
agrees R (u ∷ xs) (v ∷ ys) (suc k) x zip at = agrees R xs ys k x zip.1 at

-- ---- the first that passes

abbrev NoneBelow : {A : Type 0} → (A → Bool) → List A → ℕ → Type 0
NoneBelow {A} test xs i = (j : ℕ) (y : A) → j < i → slice_get xs j ≡ Some y → test y ≡ false

none_passes : {A : Type 0} (test : A → Bool) (xs : List A) → NoneBelow test xs (length xs) → list_any test xs ≡ false
none_passes test [] none = refl
none_passes test (x ∷ xs) none =
    or_from (test x) (list_any test xs) (none 0 x (omega arith) refl)
    (none_passes test xs (λ j y less at. none (suc j) y (omega arith) at))

passes_none : {A : Type 0} (test : A → Bool) (xs : List A) (j : ℕ) (y : A) → list_any test xs ≡ false → slice_get xs j ≡ Some y
    → test y ≡ false
passes_none test [] j y none at = absurd (none-some y at)
passes_none test (x ∷ xs) zero y none at = ap test (sym (same_Some x y at)) ∙ (or_parts (test x) (list_any test xs) none).0
passes_none test (x ∷ xs) (suc j) y none at = passes_none test xs j y (or_parts (test x) (list_any test xs) none).1 at

record IsFirst {A : Type 0} (test : A → Bool) (xs : List A) (i : ℕ) : Type 0 where
  one : A
  there : slice_get xs i ≡ Some one
  passes : test one ≡ true
  none : NoneBelow test xs i

first_is : {A : Type 0} (test : A → Bool) (from i : ℕ) (xs : List A) (x : A) → slice_get xs i ≡ Some x → test x ≡ true
    → NoneBelow test xs i →
    position_from test from xs ≡ Some (from + i)
first_is test from i [] x at passes none = absurd (none-some x at)
first_is test from zero (y ∷ xs) x at passes none =
    ap (λ b. cond b (Some from) (position_from test (from + 1) xs)) (ap test (same_Some y x at) ∙ passes)
    ∙ ap (λ n. Some n) (let e : from ≡ from + 0 = omega arith in e)
first_is test from (suc i) (y ∷ xs) x at passes none =
    ap (λ b. cond b (Some from) (position_from test (from + 1) xs)) (none 0 y (omega arith) refl)
    ∙ first_is test (from + 1) i xs x at passes (λ j z less there. none (suc j) z (omega arith) there)
    ∙ ap (λ n. Some n) (let e : from + 1 + i ≡ from + suc i = omega arith in e)

is_first : {A : Type 0} (test : A → Bool) (n : ℕ) (xs : List A) → position_from test 0 xs ≡ Some n → IsFirst test xs n
is_first test n [] found = absurd (none-some n found)
is_first test n (x ∷ xs) found =
    let at = position-Some test (x ∷ xs) n x (position_from-zero test (x ∷ xs) ∙ found) in record {
      one = get_or (x ∷ xs) n x;
      there = slice_get-get_or (x ∷ xs) n x at.0;
      passes = at.1;
      none = λ j y less there.
          ap test (same_Some y (get_or (x ∷ xs) j x) (sym there ∙ slice_get-get_or (x ∷ xs) j x (omega (arith, less, at.0)))) ∙ at.2 j less;
    }

-- ---- what is needed

kept_option : {A : Type 0} (o : Option A) (ys : List A) (y : A) → Contains ys y → Contains (cons_option o ys) y
kept_option None ys y has = has
kept_option (Some z) ys y has = Contains-append_right (z ∷ []) ys y has

split_option : {A : Type 0} (o : Option A) (ys : List A) (y : A) → Contains (cons_option o ys) y → (o ≡ Some y) ⊎ Contains ys y
split_option None ys y has = inr has
split_option (Some z) ys y has =
    elim (Contains-append_cases (z ∷ []) ys y has) [
      | inl first ↦ inl (ap (λ x. Some x) (has_one z y first))
      | inr later ↦
          inr later
    ]

needed_has : {A B : Type 0} (h : A → Option B) (xs : List A) (x : A) (y : B) → Contains xs x → h x ≡ Some y
    → Contains (filter_map h xs) y
needed_has h [] x y has gives = absurd (has_none x has)
needed_has {A = A} {B = B} h (u ∷ xs) x y has gives = elim (Contains-append_cases (u ∷ []) xs x has) [
  | inl first ↦ subst (λ (o : Option B). Contains (cons_option o (filter_map h xs)) y) (sym gives
      ∙ ap h (sym (has_one u x first)))
      (Contains-append_left (y ∷ []) (filter_map h xs) y (is_one y y refl))
  | inr later ↦ kept_option (h u) (filter_map h xs) y (needed_has h xs x y later gives)
]

has_needed : {A B : Type 0} (h : A → Option B) (xs : List A) (y : B) → Contains (filter_map h xs) y
    → (x : A) × Contains xs x × (h x ≡ Some y)
has_needed h [] y has = absurd (has_none y has)
has_needed h (u ∷ xs) y has = elim (split_option (h u) (filter_map h xs) y has) [
  | inl first ↦ (u, Contains-append_left (u ∷ []) xs u (is_one u u refl), first)
  | inr later ↦ let at = has_needed h xs y later in (at.0, Contains-append_right (u ∷ []) xs at.0 at.1, at.2)
]

-- ---- numbers of places

number_at : (libraries : List (List ModuleValue)) (p : Chosen) (m : ModuleValue) → module_at libraries p ≡ Some m →
    (k : ℕ) × (slice_get (places_from 0 libraries) k ≡ Some p) × (slice_get (members libraries) k ≡ Some m)
number_at libraries p m there =
    let at = at_has (places_from 0 libraries) p (has_place libraries p m there) in
    let beside = agrees (Stands libraries) (places_from 0 libraries) (members libraries) at.0 p (places_stand libraries) at.1 in
    (at.0, at.1, beside.1 ∙ ap (λ x. Some x) (same_Some beside.0 m (sym beside.2 ∙ there)))

below : (libraries : List (List ModuleValue)) (j k : ℕ) (q p : Chosen) → slice_get (places_from 0 libraries) j ≡ Some q
    → slice_get (places_from 0 libraries) k ≡ Some p →
    IsBefore q p → j < k
below libraries j k q p at_j at_k before = elim (cases_order j k) [
  | inl same ↦
      let is = same_Some q p (sym at_j ∙ ap (slice_get (places_from 0 libraries)) same ∙ at_k) in
      let self = subst (λ (x : Chosen). IsBefore x p) is before in absurd (never_both p p self self)
  | inr differ ↦ elim differ [
    | inl less ↦ less
    | inr more ↦ absurd (never_both q p before
        (in_order (places_from 0 libraries) k j p q (places_ascend 0 libraries) more at_k at_j))
  ]
]

needs_of : (roots : List ModuleValue) (libraries : List (List ModuleValue)) (m : ModuleValue) (name : List ℕ) (k : ℕ) (p : Chosen)
    → Contains m.externals name →
    first_provider (roots ++ members libraries) name ≡ Some (length roots + k) → slice_get (places_from 0 libraries) k ≡ Some p
    → Needs roots libraries m p
needs_of roots libraries m name k p external gives at_p =
    let found = is_first (declares name) (length roots + k) (roots ++ members libraries) gives in
    let there = sym (at_right roots (members libraries) k) ∙ found.there in
    let stands = beside (Stands libraries) (places_from 0 libraries) (members libraries) k found.one
    (places_stand libraries) there in
    let same = same_Some stands.0 p (sym stands.1 ∙ at_p) in
    record {
      name = name;
      external = external;
      in_no_root = none_passes (declares name) roots
          (λ j y less at_j. found.none j y (omega (arith, less)) (at_front roots (members libraries) j less ∙ at_j));
      first = record {
        provider = found.one;
        there = ap (module_at libraries) (sym same) ∙ stands.2;
        declares_it = found.passes;
        none_before = λ q y before at_q.
            let number = number_at libraries q y at_q in
            let less = below libraries number.0 k q p number.1 at_p before in
            found.none (length roots + number.0) y (omega (arith, less)) (at_right roots (members libraries) number.0
            ∙ number.2);
      };
    }

number_of : (roots : List ModuleValue) (libraries : List (List ModuleValue)) (name : List ℕ) (p : Chosen)
    → list_any (declares name) roots ≡ false → IsFirstProvider libraries name p →
    (k : ℕ) × (slice_get (places_from 0 libraries) k ≡ Some p)
    × (first_provider (roots ++ members libraries) name ≡ Some (length roots + k))
number_of roots libraries name p none first =
    let at = number_at libraries p first.provider first.there in (
      at.0,
      at.1,
      first_is (declares name) 0 (length roots + at.0) (roots ++ members libraries) first.provider
          (at_right roots (members libraries) at.0 ∙ at.2) first.declares_it
          (λ j y less at_j. elim (cases_lt j (length roots)) [
            | inl front ↦ passes_none (declares name) roots j y none (sym (at_front roots (members libraries) j front) ∙ at_j)
            | inr back ↦
                let there = at_back roots (members libraries) j back in
                let stands = beside (Stands libraries) (places_from 0 libraries) (members libraries) there.0 y
                (places_stand libraries) (sym there.2 ∙ at_j) in
                first.none_before stands.0 y
                (in_order (places_from 0 libraries) there.0 at.0 stands.0 p (places_ascend 0 libraries)
                (omega (arith, less, there.1)) stands.1 at.1) stands.2
          ])
          ∙ ap (λ n. Some n) (let e : 0 + (length roots + at.0) ≡ length roots + at.0 = omega arith in e),
    )

-- ---- what is reached is what is chosen

chosen_from : (roots : List ModuleValue) (libraries : List (List ModuleValue)) (n : ℕ)
    → IsReached (roots ++ members libraries) (length roots) n →
    (k : ℕ) (p : Chosen) → n ≡ length roots + k → slice_get (places_from 0 libraries) k ≡ Some p → IsChosen roots libraries p
chosen_from roots libraries n (root _ less) k p same at_p = absurd (omega (arith, less, same))
chosen_from roots libraries n (needed_by user _ m from at needs) k p same at_p =
    let need = has_needed (first_provider (roots ++ members libraries)) m.externals n needs in
    let by = needs_of roots libraries m need.0 k p need.1 (need.2 ∙ ap (λ x. Some x) same) at_p in
    elim (cases_lt user (length roots)) [
      | inl front ↦ by_root m p (has_at roots user m (sym (at_front roots (members libraries) user front) ∙ at)) by
      | inr back ↦
          let there = at_back roots (members libraries) user back in
          let stands = beside (Stands libraries) (places_from 0 libraries) (members libraries) there.0 m (places_stand libraries)
          (sym there.2 ∙ at) in
          by_member stands.0 p m (chosen_from roots libraries user from there.0 stands.0 there.1 stands.1) stands.2 by
    ]

reached_from : (roots : List ModuleValue) (libraries : List (List ModuleValue)) (p : Chosen) → IsChosen roots libraries p →
    (k : ℕ) × (slice_get (places_from 0 libraries) k ≡ Some p)
    × IsReached (roots ++ members libraries) (length roots) (length roots + k)
reached_from roots libraries p (by_root r _ has needs) =
    let number = number_of roots libraries needs.name p needs.in_no_root needs.first in
    let at = at_has roots r has in (
      number.0,
      number.1,
      needed_by at.0 (length roots + number.0) r (root at.0 (slice_get_within roots at.0 r at.1))
          (at_left roots (members libraries) at.0 r at.1)
          (needed_has (first_provider (roots ++ members libraries)) r.externals needs.name
          (length roots + number.0) needs.external number.2),
    )
reached_from roots libraries p (by_member q _ m from at needs) =
    let number = number_of roots libraries needs.name p needs.in_no_root needs.first in
    let user = reached_from roots libraries q from in
    let stands = agrees (Stands libraries) (places_from 0 libraries) (members libraries) user.0 q
    (places_stand libraries) user.1 in
    let same = same_Some stands.0 m (sym stands.2 ∙ at) in (
      number.0,
      number.1,
      needed_by (length roots + user.0) (length roots + number.0) m user.2 (at_right roots (members libraries) user.0 ∙ stands.1
          ∙ ap (λ x. Some x) same)
          (needed_has (first_provider (roots ++ members libraries)) m.externals needs.name
          (length roots + number.0) needs.external number.2),
    )

marked_are_chosen : (roots : List ModuleValue) (libraries : List (List ModuleValue)) (marked : List Bool)
    → AreReached (roots ++ members libraries) (length roots) marked →
    (p : Chosen) → Contains (marked_places (places_from 0 libraries) (drop (length roots) marked)) p ↔ IsChosen roots libraries p
marked_are_chosen roots libraries marked are p = (
  λ has.
      let at = mark_of (places_from 0 libraries) (drop (length roots) marked) p has in
      chosen_from roots libraries (length roots + at.0)
      ((are.reached (length roots + at.0)).0 (sym (get_or-drop (length roots) marked at.0 false) ∙ at.2)) at.0 p refl at.1,
  λ chosen.
      let from = reached_from roots libraries p chosen in
      marked_has (places_from 0 libraries) (drop (length roots) marked) p from.0 from.1
      (get_or-drop (length roots) marked from.0 false ∙ (are.reached (length roots + from.0)).1 from.2),
)

pub selected : (roots : List ModuleValue) (libraries : List (List ModuleValue)) (row : List ModuleValue) (marked : List Bool)
    (taken : List Chosen) →
    row ≡ roots ++ members libraries → AreReached row (length roots) marked
    → taken ≡ marked_places (places_from 0 libraries) (drop (length roots) marked) →
    (p : Chosen) → Contains taken p ↔ IsChosen roots libraries p
selected roots libraries row marked taken is are gives p =
    subst (λ (ps : List Chosen). Contains ps p ↔ IsChosen roots libraries p) (sym gives)
    (marked_are_chosen roots libraries marked (subst (λ (r : List ModuleValue). AreReached r (length roots) marked) is are) p)

pub marked_in_order : (libraries : List (List ModuleValue)) (marked : List Bool)
    → AreAscending (marked_places (places_from 0 libraries) marked)
marked_in_order libraries marked = marked_ascend (places_from 0 libraries) marked (places_ascend 0 libraries)

-- ---- numbers in a row

pub first_within : (row : List ModuleValue) (name : List ℕ) (r : Option ℕ) → r ≡ first_provider row name
    → IfSome r (λ n. n < length row)
first_within row name None is = tt
first_within row name (Some n) is =
    let found = is_first (declares name) n row (sym is) in slice_get_within row n found.one found.there
