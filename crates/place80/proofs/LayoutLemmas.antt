-- The placed segments of a program.
use Rattle.std.proofs.Common.{◌≡◌, ◌≢◌, ℕ, zero, suc, ◌+◌, ◌<◌, ◌≤◌, Bool, true, false, cond, ◌||◌, List, [], ◌∷◌, ◌++◌, refl, sym, ap, subst, ◌∙◌, arith, inl, inr, eqb-true}
use Rattle.std.specs.Prelude.{◌==◌, None, filter, find, unwrap_or, All}
use Rattle.std.specs.List.{list_any, range_with_len}
use Rattle.std.proofs.lemmas.Bool.{cases_Bool, eqb-false}
use Rattle.std.proofs.lemmas.Bool.Decides.{nat_tests}
use Rattle.std.proofs.lemmas.List.Elements.{All-nil, All-cons}
use Rattle.std.proofs.lemmas.List.Folds.{find-append, list_any-append}
use Rattle.omf_model.specs.Segments.{has_segment, has_common_id, is_fixed_id}
use Rattle.omf_model.specs.Modules.{ModuleValue}
use Rattle.place80.specs.declared.options.Options.{Options}
use Rattle.place80.specs.declared.placed_segments.Placed.{Placed}
use Rattle.place80.specs.Layout.{default_base, common_ids, order_of, given_length, own_segment, common_numbers, placed_after, placed_from, layout_of}
use Rattle.place80.specs.PlaceFault.{overlap_of, first_sharing, with_each, is_outside, overlaps, pairs, all_pairs, absolute_places, outside_memory, overlap, layout_fault}
use Rattle.place80.specs.declared.place_fault.PlaceFault.TheVariants.{OutsideMemory}
use Rattle.place80.proofs.OptionLemmas.{none_of_both, none_mapped}

abbrev over_absolute : ModuleValue → List Placed → List (Placed × Placed)
over_absolute m segments = with_each segments (absolute_places m.contents)

-- where segments can be laid out, they are in memory and no two of them overlap
pub in_memory_and_apart : (options : Options) (m : ModuleValue) → layout_fault options m ≡ None →
    (find (is_outside m.contents) (layout_of options m) ≡ None)
    × (find (λ pq. overlaps pq.0 pq.1) (pairs (layout_of options m)) ≡ None)
in_memory_and_apart options m none =
    let parts = none_of_both (outside_memory m (layout_of options m)) (overlap m (layout_of options m)) none in
    let segments : List Placed = layout_of options m in (
      none_mapped (λ (p : Placed). OutsideMemory p.id) (find (is_outside m.contents) segments) parts.0,
      (none_of_both (find (λ (pq : Placed × Placed). overlaps pq.0 pq.1) (pairs segments))
          (find (λ (pq : Placed × Placed). overlaps pq.0 pq.1) (over_absolute m segments))
          (sym (find-append (λ (pq : Placed × Placed). overlaps pq.0 pq.1) (pairs segments) (over_absolute m segments))
          ∙ none_mapped overlap_of (first_sharing (all_pairs m segments)) parts.1)).0,
    )

-- the length of each segment is the one that is given, or else its own
abbrev pub length_of_id : Options → ModuleValue → ℕ → ℕ
length_of_id options m id = unwrap_or (given_length options id) (own_segment m id).length

placed_lengths : (options : Options) (m : ModuleValue) (before : ℕ) (ids : List ℕ)
    → All (λ p. p.length ≡ length_of_id options m p.id) (placed_from options m before ids)
placed_lengths options m before [] = All-nil (λ p. p.length ≡ length_of_id options m p.id)
placed_lengths options m before (id ∷ ids) =
    let p : Placed = placed_after options m before id in
    All-cons (λ q. q.length ≡ length_of_id options m q.id) p (placed_from options m (p.base + p.length) ids) refl
    (placed_lengths options m (p.base + p.length) ids)

pub layout_lengths : (options : Options) (m : ModuleValue)
    → All (λ p. p.length ≡ length_of_id options m p.id) (layout_of options m)
unfolding layout_of
layout_lengths options m = placed_lengths options m default_base (order_of m.commons)

-- the ids of the placed segments
placed_ids : (options : Options) (m : ModuleValue) (before : ℕ) (ids : List ℕ) (id : ℕ)
    → list_any (λ p. p.id == id) (placed_from options m before ids) ≡ list_any (λ i. i == id) ids
placed_ids options m before [] id = refl
placed_ids options m before (i ∷ is) id =
    let p : Placed = placed_after options m before i in
    ap (λ b. i == id || b) (placed_ids options m (p.base + p.length) is id)

layout_ids : (options : Options) (m : ModuleValue) (id : ℕ)
    → list_any (λ p. p.id == id) (layout_of options m) ≡ list_any (λ i. i == id) (order_of m.commons)
unfolding layout_of
layout_ids options m id = placed_ids options m default_base (order_of m.commons) id

or_true : (b : Bool) → (b || true) ≡ true
or_true true = refl
or_true false = refl

-- an item of a part
any_back : {A : Type 0} (test : A → Bool) (xs ys : List A) → list_any test ys ≡ true → list_any test (xs ++ ys) ≡ true
any_back test xs ys found = list_any-append test xs ys ∙ ap (λ b. list_any test xs || b) found ∙ or_true (list_any test xs)

any_front : {A : Type 0} (test : A → Bool) (xs ys : List A) → list_any test xs ≡ true → list_any test (xs ++ ys) ≡ true
any_front test xs ys found = list_any-append test xs ys ∙ ap (λ b. b || list_any test ys) found

-- a number of a range that passes a test
any_of_range : (test : ℕ → Bool) (n low id : ℕ) → low ≤ id → id < low + n → test id ≡ true
    → list_any (λ i. i == id) (filter test (range_with_len low n)) ≡ true
any_of_range test zero low id above below passes = absurd (omega arith)
any_of_range test (suc n) low id above below passes =
    let rest : List ℕ = filter test (range_with_len (low + 1) n) in
    elim (cases_Bool (low == id)) [
      | inl e ↦
          let first : test low ≡ true = subst (λ k. test k ≡ true) (sym (eqb-true low id e)) passes in
          ap (λ b. list_any (λ i. i == id) (cond b (low ∷ rest) rest)) first ∙ ap (λ b. b || list_any (λ i. i == id) rest) e
      | inr e ↦
          let other : low ≢ id = eqb-false low id e in
          let later : list_any (λ i. i == id) rest ≡ true = any_of_range test n (low + 1) id (omega arith) (omega arith) passes in
          elim (test low) as (λ b. list_any (λ i. i == id) (cond b (low ∷ rest) rest) ≡ true)
          [ true ↦ ap (λ b. low == id || b) later ∙ or_true (low == id) | false ↦ later ]
    ]

-- the order of segments, around the ids of named commons
abbrev ordered : List ℕ → List ℕ
ordered named = 1 ∷ 3 ∷ (named ++ 255 ∷ 2 ∷ 4 ∷ [])

from_later : (named : List ℕ) (id : ℕ) → list_any (λ i. i == id) (named ++ 255 ∷ 2 ∷ 4 ∷ []) ≡ true
    → list_any (λ i. i == id) (ordered named) ≡ true
from_later named id later = ap (λ b. 1 == id || (3 == id || b)) later ∙ ap (λ b. 1 == id || b) (or_true (3 == id))
    ∙ or_true (1 == id)

last_three : (id : ℕ) → is_fixed_id id ≡ true → (id == 0) ≡ false → (1 == id) ≡ false → (3 == id) ≡ false
    → list_any (λ i. i == id) (255 ∷ 2 ∷ 4 ∷ []) ≡ true
last_three id fixed a b c = grind (arith, nat_tests, fixed, a, b, c)

fixed_in_order : (named : List ℕ) (id : ℕ) → is_fixed_id id ≡ true → (id == 0) ≡ false
    → list_any (λ i. i == id) (ordered named) ≡ true
fixed_in_order named id fixed not_absolute =
    let back : List ℕ = named ++ 255 ∷ 2 ∷ 4 ∷ [] in
    elim (cases_Bool (1 == id)) [
      | inl e ↦ ap (λ b. b || (3 == id || list_any (λ i. i == id) back)) e
      | inr e ↦ elim (cases_Bool (3 == id)) [
        | inl f ↦ ap (λ b. 1 == id || (b || list_any (λ i. i == id) back)) f ∙ or_true (1 == id)
        | inr f ↦ from_later named id (any_back (λ i. i == id) named (255 ∷ 2 ∷ 4 ∷ []) (last_three id fixed not_absolute e f))
      ]
    ]

-- every segment of the program but the absolute one is placed
pub layout_has : (options : Options) (m : ModuleValue) (id : ℕ)
    → ((i : ℕ) → has_common_id m.commons i ≡ true → (6 ≤ i) × (i ≤ 254)) → has_segment m.commons id ≡ true → (id == 0) ≡ false →
    list_any (λ p. p.id == id) (layout_of options m) ≡ true
unfolding common_numbers
layout_has options m id ids has not_absolute = elim (cases_Bool (is_fixed_id id)) [
  | inl e ↦ layout_ids options m id ∙ fixed_in_order (common_ids m.commons) id e not_absolute
  | inr e ↦
      let named : has_common_id m.commons id ≡ true = sym (ap (λ b. b || has_common_id m.commons id) e) ∙ has in
      let bounds = ids id named in
      layout_ids options m id
      ∙ from_later (common_ids m.commons) id
      (any_front (λ i. i == id) (common_ids m.commons) (255 ∷ 2 ∷ 4 ∷ [])
      (any_of_range (has_common_id m.commons) 249 6 id bounds.0 (omega (arith, bounds.1)) named))
]
