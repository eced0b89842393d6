-- A fault of segments that don't fit names those that are found.
use Rattle.std.specs.Prelude.{◌≡◌, ◌⊎◌, ℕ, suc, Bool, true, false, Option, Some, None, option_map, option_and_then, is_none, cond, if◌then◌else◌, List, [], ◌∷◌, ◌++◌, find, slice_get, Contains}
use Rattle.std.specs.Option.{option_map_or}
use Rattle.std.proofs.Common.{refl, sym, ◌∙◌, ap, arith, inl, inr}
use Rattle.std.proofs.lemmas.Bool.{true≢false}
use Rattle.omf_model.specs.Modules.{ModuleValue}
use Rattle.place80.specs.declared.options.Options.{Options}
use Rattle.place80.specs.declared.placed_segments.Placed.{Placed}
use Rattle.place80.specs.declared.place_fault.PlaceFault.{PlaceFault}
use Rattle.place80.specs.declared.place_fault.PlaceFault.TheVariants.{Unresolved, NoStart, OutsideMemory, Overlap, HighNotPaged, StartNotCode, Memory}
use Rattle.place80.specs.Layout.{layout_of, program_bases}
use Rattle.place80.specs.PlaceFault.{unresolved, no_start, is_outside, outside_memory, overlaps, overlap, overlap_of}
use Rattle.place80.specs.PlaceFault.{first_sharing, all_pairs, high_not_paged, start_not_code, layout_fault, locate_fault}
use Rattle.place80.specs.Restart.{restart_pairs}
use Rattle.place80.specs.Causes.{placed_line, pair_lines, first_overlap}
use Rattle.place80.specs.CauseLaws.{IsReported, ShowsOutside, ShowsOverlap}
use Rattle.place80.proofs.PairLemmas.{found_first, found_among_others}
use Rattle.place80.proofs.OptionLemmas.{none_of_both, one_of_both, none_mapped, one_mapped}

-- ---- what is found passes the test and is among the items

found_passes : {A : Type 0} (p : A → Bool) (xs : List A) (x : A) → find p xs ≡ Some x → p x ≡ true
found_passes {A} p [] x e = elim (true≢false (sym (ap (λ (o : Option A). option_map_or (λ x. true) o false) e))) [ ]
found_passes {A} p (y ∷ ys) x e = go (found_passes p ys x) (p y) refl e
  where
    go : (find p ys ≡ Some x → p x ≡ true) → (t : Bool) → p y ≡ t → cond t (Some y) (find p ys) ≡ Some x → p x ≡ true
    go rest true k e = ap p (sym (ap (λ (o : Option A). option_map_or (λ z. z) o y) e)) ∙ k
    go rest false k e = rest e

found_among : {A : Type 0} (p : A → Bool) (xs : List A) (x : A) → find p xs ≡ Some x → Contains xs x
found_among {A} p [] x e = elim (true≢false (sym (ap (λ (o : Option A). option_map_or (λ x. true) o false) e))) [ ]
found_among {A} p (y ∷ ys) x e = go (found_among p ys x) (p y) e
  where
    go : (find p ys ≡ Some x → Contains ys x) → (t : Bool) → cond t (Some y) (find p ys) ≡ Some x → Contains (y ∷ ys) x
    go rest true e = (0, omega arith, ap (λ (o : Option A). option_map_or (λ z. z) o y) e)
    go rest false e = let r = rest e in (suc r.0, omega (arith, r.1), r.2)

-- ---- a fault of the layout is none of another kind

differ : (first second id : ℕ) → Overlap first second ≡ OutsideMemory id → ⊥
differ first second id e = cc

same_id : (a b : ℕ) → OutsideMemory a ≡ OutsideMemory b → a ≡ b
same_id a b e = cc

same_ids : (a b c d : ℕ) → Overlap a b ≡ Overlap c d → (a ≡ c) × (b ≡ d)
same_ids a b c d e = (cc, cc)

abbrev is_of_layout : PlaceFault → Bool
is_of_layout (Unresolved name) = false
is_of_layout NoStart = false
is_of_layout (OutsideMemory id) = true
is_of_layout (Overlap first second) = true
is_of_layout HighNotPaged = false
is_of_layout StartNotCode = false
is_of_layout Memory = false

abbrev of_layout : Option PlaceFault → Bool
of_layout o = option_map_or is_of_layout o false

module _ (options : Options) (m : ModuleValue) where
  abbrev segments : List Placed
  segments = layout_of options m

  unresolved_other : (o : Option (List ℕ)) → of_layout (option_map Unresolved o) ≡ false
  unresolved_other None = refl
  unresolved_other (Some n) = refl

  no_start_other : (t : Bool) → of_layout (if t then Some NoStart else None) ≡ false
  no_start_other true = refl
  no_start_other false = refl

  high_other : (t : Bool) → of_layout (if t then Some HighNotPaged else None) ≡ false
  high_other true = refl
  high_other false = refl

  -- a fault of the layout isn't one that comes before, or after
  other : (a : Option PlaceFault) (f : PlaceFault) → is_of_layout f ≡ true → of_layout a ≡ false → a ≡ Some f → ⊥
  other a f layout apart e = true≢false (sym layout ∙ sym (ap of_layout e) ∙ apart)

  start_other : (is_code : ℕ × ℕ → Bool) (o : Option (ℕ × ℕ)) → of_layout (option_and_then (λ start. if is_code start then None else Some StartNotCode) o) ≡ false
  start_other is_code None = refl
  start_other is_code (Some start) = go (is_code start)
    where
      go : (t : Bool) → of_layout (if t then None else Some StartNotCode) ≡ false
      go true = refl
      go false = refl

  located : (f : PlaceFault) → is_of_layout f ≡ true → locate_fault options m ≡ Some f → layout_fault options m ≡ Some f
  located f layout e = elim (one_of_both (unresolved m) _ f e) [
    | inl a ↦ elim (other (unresolved m) f layout (unresolved_other (slice_get m.externals 0)) a) [ ]
    | inr k ↦ elim (one_of_both (no_start m) _ f k.1) [
      | inl a ↦ elim (other (no_start m) f layout (no_start_other (is_none m.start)) a) [ ]
      | inr l ↦ elim (one_of_both (layout_fault options m) _ f l.1) [
        | inl a ↦ a
        | inr h ↦ elim (one_of_both (high_not_paged (program_bases options m) m) _ f h.1) [
          | inl a ↦ elim (other (high_not_paged (program_bases options m) m) f layout (high_other _) a) [ ]
          | inr s ↦ elim (other (start_not_code (program_bases options m) m segments) f layout (start_other _ m.start) s.1) [ ]
        ]
      ]
    ]
  ]

  not_laid : locate_fault options m ≡ None → layout_fault options m ≡ None
  not_laid e = (none_of_both (layout_fault options m) _ (none_of_both (no_start m) _ (none_of_both (unresolved m) _ e).1).1).0

  reported : (f : PlaceFault) → is_of_layout f ≡ true → IsReported options m f
      → (layout_fault options m ≡ Some f) ⊎ ((layout_fault options m ≡ None) × (option_map overlap_of (first_sharing (restart_pairs m segments)) ≡ Some f))
  reported f layout (inl e) = inl (located f layout e)
  reported f layout (inr e) = elim (one_of_both (locate_fault options m) (option_map overlap_of (first_sharing (restart_pairs m segments))) f e) [
    | inl a ↦ inl (located f layout a)
    | inr k ↦ inr (not_laid k.0, k.1)
  ]

  -- ---- outside memory

  overlap_alone : (o : Option (Placed × Placed)) (id : ℕ) → option_map overlap_of o ≡ Some (OutsideMemory id) → ⊥
  overlap_alone o id e =
      let at = one_mapped overlap_of o (OutsideMemory id) e in differ at.0.0.id at.0.1.id id at.2

  pub outside_shown : (id : ℕ) → IsReported options m (OutsideMemory id) → ShowsOutside options m id
  outside_shown id is = elim (reported (OutsideMemory id) refl is) [
    | inr k ↦ elim (overlap_alone (first_sharing (restart_pairs m segments)) id k.1) [ ]
    | inl e ↦ elim (one_of_both (outside_memory m segments) (overlap m segments) (OutsideMemory id) e) [
      | inr k ↦ elim (overlap_alone (first_sharing (all_pairs m segments)) id k.1) [ ]
      | inl a ↦ shown (one_mapped (λ p. OutsideMemory p.id) (find (is_outside m.contents) segments) (OutsideMemory id) a)
    ]
  ]
    where
      shown : (p : Placed) × (find (is_outside m.contents) segments ≡ Some p) × (OutsideMemory p.id ≡ OutsideMemory id) → ShowsOutside options m id
      shown at = record {
        placed = at.0;
        among = found_among (is_outside m.contents) segments at.0 at.1;
        outside = found_passes (is_outside m.contents) segments at.0 at.1;
        id_is = same_id at.0.id id at.2;
        text_is = ap (λ (o : Option Placed). option_map_or (placed_line m.commons) o []) at.1;
      }

  -- ---- two that share an address

  shows_pair : (first second : ℕ) (pq : Placed × Placed) → first_overlap m segments ≡ Some pq → overlap_of pq ≡ Overlap first second
      → ShowsOverlap options m first second
  shows_pair first second pq found is = record {
    place = pq.0;
    other = pq.1;
    among = found_among (λ (pq : Placed × Placed). overlaps pq.0 pq.1) (all_pairs m segments ++ restart_pairs m segments) pq found;
    overlap = found_passes (λ (pq : Placed × Placed). overlaps pq.0 pq.1) (all_pairs m segments ++ restart_pairs m segments) pq found;
    first_is = (same_ids pq.0.id pq.1.id first second is).0;
    second_is = (same_ids pq.0.id pq.1.id first second is).1;
    text_is = ap (λ (o : Option (Placed × Placed)). option_map_or (pair_lines m.commons) o []) found;
  }

  -- those of the program
  of_program : (first second : ℕ) → overlap m segments ≡ Some (Overlap first second) → ShowsOverlap options m first second
  of_program first second e =
      let pair = one_mapped overlap_of (first_sharing (all_pairs m segments)) (Overlap first second) e in
      shows_pair first second pair.0 (found_first (all_pairs m segments) (restart_pairs m segments) pair.0 pair.1) pair.2

  -- and one with a restart, if none of the program do
  of_restart : (first second : ℕ) → layout_fault options m ≡ None
      → option_map overlap_of (first_sharing (restart_pairs m segments)) ≡ Some (Overlap first second) → ShowsOverlap options m first second
  of_restart first second none e =
      let pair = one_mapped overlap_of (first_sharing (restart_pairs m segments)) (Overlap first second) e in
      let nobody : first_sharing (all_pairs m segments) ≡ None =
      none_mapped overlap_of (first_sharing (all_pairs m segments)) (none_of_both (outside_memory m segments) (overlap m segments) none).1 in
      shows_pair first second pair.0 (found_among_others (all_pairs m segments) (restart_pairs m segments) nobody ∙ pair.1) pair.2

  pub overlap_shown : (first second : ℕ) → IsReported options m (Overlap first second) → ShowsOverlap options m first second
  overlap_shown first second is = elim (reported (Overlap first second) refl is) [
    | inr k ↦ of_restart first second k.0 k.1
    | inl e ↦ elim (one_of_both (outside_memory m segments) (overlap m segments) (Overlap first second) e) [
      | inl a ↦ elim (outside_alone (one_mapped (λ p. OutsideMemory p.id) (find (is_outside m.contents) segments) (Overlap first second) a)) [ ]
      | inr k ↦ of_program first second k.1
    ]
  ]
    where
      outside_alone : (p : Placed) × (find (is_outside m.contents) segments ≡ Some p) × (OutsideMemory p.id ≡ Overlap first second) → ⊥
      outside_alone at = differ first second at.0.id (sym at.2)
