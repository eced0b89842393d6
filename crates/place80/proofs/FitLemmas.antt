-- What it means that the places of segments have no fault.
use Rattle.std.proofs.Common.{◌≡◌, ℕ, suc, ◌+◌, ◌<◌, ◌≤◌, Bool, false, cond, ◌&&◌, ◌||◌, List, [], ◌∷◌, map, length, refl, sym, ap, ◌∙◌, arith, inl, inr, true≢false}
use Rattle.std.specs.Prelude.{nat_lt, ◌==◌, ◌↔◌, Option, None, Some, option_map, filter, find, All, AllPairs}
use Rattle.std.specs.List.{list_any}
use Rattle.std.specs.Option.{option_or}
use Rattle.std.proofs.lemmas.Bool.{and_parts, cases_Bool, ltb-true, ltb-false, eqb-true, and_from, or_parts}
use Rattle.std.proofs.lemmas.List.Elements.{All-nil, All-cons, All-head, All-tail, All-weaker}
use Rattle.std.proofs.lemmas.List.Folds.{find-append, list_any_none}
use Rattle.std.proofs.lemmas.List.Kept.{AllPairs-cons}
use Rattle.omf_model.specs.Contents.{ContentValue}
use Rattle.omf_model.specs.Modules.{ModuleValue}
use Rattle.place80.specs.declared.options.Options.{Options}
use Rattle.place80.specs.declared.placed_segments.Placed.{Placed}
use Rattle.place80.specs.declared.place_fault.PlaceFault.TheVariants.{OutsideMemory}
use Rattle.place80.specs.Layout.{layout_of}
use Rattle.place80.specs.LayoutLaws.{LiesInMemory, AreApart, Fit}
use Rattle.place80.specs.PlaceFault.{overlaps, is_in_placed, pairs, absolute_place, absolute_places, with_each, all_pairs}
use Rattle.place80.specs.PlaceFault.{first_sharing, overlap_of, overlap, passes_memory, is_outside, outside_memory, layout_fault}
use Rattle.place80.proofs.OptionLemmas.{find_none, fails_all, none_of_both, none_mapped}
use Rattle.place80.proofs.OverlapLemmas.{overlap_is_shared_address}

-- ---- tests that find nothing

finds_none : {A : Type 0} (test : A → Bool) (xs : List A) → All (λ x. test x ≡ false) xs → find test xs ≡ None
finds_none test [] all = refl
finds_none test (x ∷ xs) all =
    ap (λ b. cond b (Some x) (find test xs)) (All-head (λ x. test x ≡ false) x xs all)
    ∙ finds_none test xs (All-tail (λ x. test x ≡ false) x xs all)

any_fails_all : {A : Type 0} (test : A → Bool) (xs : List A) → list_any test xs ≡ false → All (λ x. test x ≡ false) xs
any_fails_all test [] none = All-nil (λ x. test x ≡ false)
any_fails_all test (x ∷ xs) none =
    let parts = or_parts (test x) (list_any test xs) none in
    All-cons (λ x. test x ≡ false) x xs parts.0 (any_fails_all test xs parts.1)

both_none : {A : Type 0} (a b : Option A) → a ≡ None → b ≡ None → option_or a b ≡ None
both_none a b a_none b_none = ap (λ o. option_or o b) a_none ∙ b_none

-- ---- places that share no address

apart : (p q : Placed) → overlaps p q ≡ false → AreApart p q
apart p q none address here = elim (cases_Bool (is_in_placed q address)) [
  | inl there ↦ absurd (true≢false (sym ((overlap_is_shared_address p q).1 (address, here, there)) ∙ none))
  | inr e ↦ e
]

no_overlap : (p q : Placed) → AreApart p q → overlaps p q ≡ false
no_overlap p q are_apart = elim (cases_Bool (overlaps p q)) [
  | inl e ↦
      let shared = (overlap_is_shared_address p q).0 e in
      absurd (true≢false (sym shared.2 ∙ are_apart shared.0 shared.1))
  | inr e ↦ e
]

abbrev overlap_pair : Placed × Placed → Bool
overlap_pair pq = overlaps pq.0 pq.1

abbrev pair_with : Placed → Placed → Placed × Placed
pair_with p q = (p, q)

apart_from_each : (p : Placed) (ps : List Placed) → find overlap_pair (map (pair_with p) ps) ≡ None → All (AreApart p) ps
apart_from_each p [] none = All-nil (AreApart p)
apart_from_each p (q ∷ qs) none =
    let parts = find_none overlap_pair (pair_with p q) (map (pair_with p) qs) none in
    All-cons (AreApart p) q qs (apart p q parts.0) (apart_from_each p qs parts.1)

none_with_each : (p : Placed) (ps : List Placed) → All (AreApart p) ps → find overlap_pair (map (pair_with p) ps) ≡ None
none_with_each p [] all = refl
none_with_each p (q ∷ qs) all =
    ap (λ b. cond b (Some (pair_with p q)) (find overlap_pair (map (pair_with p) qs)))
    (no_overlap p q (All-head (AreApart p) q qs all))
    ∙ none_with_each p qs (All-tail (AreApart p) q qs all)

each_apart : (ps : List Placed) → find overlap_pair (pairs ps) ≡ None → AllPairs AreApart ps
each_apart [] none = λ i j d before inside. absurd (omega arith)
each_apart (p ∷ ps) none =
    let both = none_of_both (find overlap_pair (map (pair_with p) ps)) (find overlap_pair (pairs ps))
    (sym (find-append overlap_pair (map (pair_with p) ps) (pairs ps)) ∙ none) in
    AllPairs-cons AreApart p ps (apart_from_each p ps both.0) (each_apart ps both.1)

none_of_pairs : (ps : List Placed) → AllPairs AreApart ps → find overlap_pair (pairs ps) ≡ None
none_of_pairs [] all = refl
none_of_pairs (p ∷ ps) all =
    let first : All (AreApart p) ps = λ k d inside. all 0 (suc k) d (omega arith) (omega arith) in
    let rest : AllPairs AreApart ps = λ i j d before inside. all (suc i) (suc j) d (omega arith) (omega arith) in
    find-append overlap_pair (map (pair_with p) ps) (pairs ps)
    ∙ both_none (find overlap_pair (map (pair_with p) ps)) (find overlap_pair (pairs ps)) (none_with_each p ps first)
    (none_of_pairs ps rest)

-- ---- absolute contents

abbrev ApartFrom : List Placed → ContentValue → Type 0
ApartFrom ps c = c.segment ≡ 0 → All (AreApart (absolute_place c)) ps

-- the pairs of a content, if it is absolute, and of those after it
abbrev pairs_of : List Placed → ContentValue → List ContentValue → Bool → List (Placed × Placed)
pairs_of ps c cs is_absolute =
    with_each ps (map absolute_place (cond is_absolute (c ∷ filter (λ c. c.segment == 0) cs) (filter (λ c. c.segment == 0) cs)))

contents_apart : (ps : List Placed) (contents : List ContentValue)
    → find overlap_pair (with_each ps (absolute_places contents)) ≡ None → All (ApartFrom ps) contents
contents_apart ps [] none = All-nil (ApartFrom ps)
contents_apart ps (c ∷ cs) none = elim (cases_Bool (c.segment == 0)) [
  | inl e ↦
      let own = map (pair_with (absolute_place c)) ps in
      let split : option_or (find overlap_pair own) (find overlap_pair (with_each ps (absolute_places cs))) ≡ None =
      sym (find-append overlap_pair own (with_each ps (absolute_places cs)))
      ∙ ap (λ b. find overlap_pair (pairs_of ps c cs b)) (sym e) ∙ none in
      let both = none_of_both (find overlap_pair own) (find overlap_pair (with_each ps (absolute_places cs))) split in
      All-cons (ApartFrom ps) c cs (λ _. apart_from_each (absolute_place c) ps both.0) (contents_apart ps cs both.1)
  | inr e ↦
      All-cons (ApartFrom ps) c cs (λ is. absurd (true≢false (sym (ap (λ n. n == 0) is) ∙ e)))
      (contents_apart ps cs (ap (λ b. find overlap_pair (pairs_of ps c cs b)) (sym e) ∙ none))
]

none_of_contents : (ps : List Placed) (contents : List ContentValue) → All (ApartFrom ps) contents
    → find overlap_pair (with_each ps (absolute_places contents)) ≡ None
none_of_contents ps [] all = refl
none_of_contents ps (c ∷ cs) all =
    let rest = none_of_contents ps cs (All-tail (ApartFrom ps) c cs all) in
    elim (cases_Bool (c.segment == 0)) [
      | inl e ↦
          let own = map (pair_with (absolute_place c)) ps in
          ap (λ b. find overlap_pair (pairs_of ps c cs b)) e
          ∙ find-append overlap_pair own (with_each ps (absolute_places cs))
          ∙ both_none (find overlap_pair own) (find overlap_pair (with_each ps (absolute_places cs)))
          (none_with_each (absolute_place c) ps (All-head (ApartFrom ps) c cs all (eqb-true c.segment 0 e))) rest
      | inr e ↦ ap (λ b. find overlap_pair (pairs_of ps c cs b)) e ∙ rest
    ]

-- ---- segments in memory

abbrev HoldsContent : ℕ → ContentValue → Type 0
HoldsContent size c = c.segment ≡ 4 → c.offset + length c.bytes ≤ size

not_passed : (size : ℕ) (c : ContentValue) → passes_memory size c ≡ false → HoldsContent size c
not_passed size c none is = elim (cases_Bool (nat_lt size (c.offset + length c.bytes))) [
  | inl e ↦ absurd (true≢false (sym (and_from (c.segment == 4) (nat_lt size (c.offset + length c.bytes)) (ap (λ n. n == 4) is) e)
      ∙ none))
  | inr e ↦ ltb-false size (c.offset + length c.bytes) e
]

held_passes_none : (size : ℕ) (c : ContentValue) → HoldsContent size c → passes_memory size c ≡ false
held_passes_none size c holds = elim (cases_Bool (passes_memory size c)) [
  | inl e ↦
      let parts = and_parts (c.segment == 4) (nat_lt size (c.offset + length c.bytes)) e in
      let long : size < c.offset + length c.bytes = ltb-true size (c.offset + length c.bytes) parts.1 in
      let short : c.offset + length c.bytes ≤ size = holds (eqb-true c.segment 4 parts.0) in
      absurd (omega arith)
  | inr e ↦ e
]

lies : (contents : List ContentValue) (p : Placed) → is_outside contents p ≡ false → LiesInMemory contents p
lies contents p none =
    let parts = or_parts (nat_lt 65536 (p.base + p.length)) (p.id == 4 && list_any (passes_memory p.length) contents) none in
    record {
      «end» = ltb-false 65536 (p.base + p.length) parts.0;
      content = λ is.
          All-weaker (λ c. passes_memory p.length c ≡ false) (HoldsContent p.length) (not_passed p.length) contents
          (any_fails_all (passes_memory p.length) contents
          (ap (λ b. b && list_any (passes_memory p.length) contents) (sym (ap (λ n. n == 4) is)) ∙ parts.1));
    }

not_outside : (contents : List ContentValue) (p : Placed) → LiesInMemory contents p → is_outside contents p ≡ false
not_outside contents p lies_in =
    let any : Bool = list_any (passes_memory p.length) contents in
    let ends : nat_lt 65536 (p.base + p.length) ≡ false = elim (cases_Bool (nat_lt 65536 (p.base + p.length))) [
      | inl e ↦ let past : 65536 < p.base + p.length = ltb-true 65536 (p.base + p.length) e in
          let before : p.base + p.length ≤ 65536 = lies_in.«end» in absurd (omega arith)
      | inr e ↦ e
    ] in
    let held : (p.id == 4 && any) ≡ false = elim (cases_Bool (p.id == 4)) [
      | inl e ↦
          ap (λ b. b && any) e
          ∙ list_any_none (passes_memory p.length) contents
          (All-weaker (HoldsContent p.length) (λ c. passes_memory p.length c ≡ false) (held_passes_none p.length) contents
          (lies_in.content (eqb-true p.id 4 e)))
      | inr e ↦ ap (λ b. b && any) e
    ] in
    ap (λ b. b || (p.id == 4 && any)) ends ∙ held

-- ---- both

told_none : (m : ModuleValue) (ps : List Placed) → option_or (outside_memory m ps) (overlap m ps) ≡ None → Fit m ps
told_none m ps none =
    let both = none_of_both (outside_memory m ps) (overlap m ps) none in
    let outside : find (is_outside m.contents) ps ≡ None =
    none_mapped (λ (p : Placed). OutsideMemory p.id) (find (is_outside m.contents) ps) both.0 in
    let found : find overlap_pair (all_pairs m ps) ≡ None = none_mapped overlap_of (first_sharing (all_pairs m ps)) both.1 in
    let parts = none_of_both (find overlap_pair (pairs ps)) (find overlap_pair (with_each ps (absolute_places m.contents)))
    (sym (find-append overlap_pair (pairs ps) (with_each ps (absolute_places m.contents))) ∙ found) in
    record {
      in_memory = All-weaker (λ p. is_outside m.contents p ≡ false) (LiesInMemory m.contents) (lies m.contents) ps
          (fails_all (is_outside m.contents) ps outside);
      apart = each_apart ps parts.0;
      absolute_apart = contents_apart ps m.contents parts.1;
    }

fit_none : (m : ModuleValue) (ps : List Placed) → Fit m ps → option_or (outside_memory m ps) (overlap m ps) ≡ None
fit_none m ps fit =
    let outside : find (is_outside m.contents) ps ≡ None = finds_none (is_outside m.contents) ps
    (All-weaker (LiesInMemory m.contents) (λ p. is_outside m.contents p ≡ false) (not_outside m.contents) ps fit.in_memory) in
    let found : find overlap_pair (all_pairs m ps) ≡ None =
    find-append overlap_pair (pairs ps) (with_each ps (absolute_places m.contents))
    ∙ both_none (find overlap_pair (pairs ps)) (find overlap_pair (with_each ps (absolute_places m.contents)))
    (none_of_pairs ps fit.apart) (none_of_contents ps m.contents fit.absolute_apart) in
    both_none (outside_memory m ps) (overlap m ps) (ap (λ o. option_map (λ (p : Placed). OutsideMemory p.id) o) outside)
    (ap (λ o. option_map overlap_of o) found)

pub nothing_told_fit : (options : Options) (m : ModuleValue) → layout_fault options m ≡ None ↔ Fit m (layout_of options m)
nothing_told_fit options m = (told_none m (layout_of options m), fit_none m (layout_of options m))
