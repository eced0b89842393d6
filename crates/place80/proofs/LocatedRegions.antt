-- The regions of a located program hold the addresses of its segments.
use Rattle.std.proofs.Common.{◌≡◌, ℕ, ◌+◌, ◌%◌, ◌<◌, ◌≤◌, Bool, true, false, cond, ◌&&◌, ◌||◌, List, [], ◌∷◌, map, refl, sym, ap, ◌∙◌, arith, inl, inr, true≢false}
use Rattle.std.specs.Prelude.{nat_le, nat_lt, ◌==◌, filter, All}
use Rattle.std.specs.List.{list_any}
use Rattle.std.proofs.lemmas.Bool.{cases_Bool, le-leb, lt-ltb, and_from}
use Rattle.std.proofs.lemmas.List.Elements.{All-head, All-tail}
use Rattle.std.proofs.lemmas.List.Sorted.{list_any-IsPermutation}
use Rattle.image80.specs.declared.range.Range.{Range}
use Rattle.place80.specs.declared.placed_segments.Placed.{Placed}
use Rattle.image80.specs.Range.{in_range}
use Rattle.image80.specs.Regions.{Areas, Arranges}
use Rattle.image80.specs.RegionsText.{filled}
use Rattle.place80.specs.Layout.{placed_in}
use Rattle.place80.specs.PlaceFault.{is_in_placed}
use Rattle.place80.specs.Locating.{range_at, is_data, located_code, located_stack, located_data}
use Rattle.place80.specs.LocatedLaws.{is_in_any, HoldsSegments}
use Rattle.place80.proofs.LocatedDisjoint.{EndsInMemory, found_all}
use Rattle.place80.proofs.LocatedApart.{empty_holds, in_segment}
use Rattle.place80.proofs.OverlapLemmas.{in_placed, placed_bounds}

-- an address of a segment is in its range
in_its_range : (p : Placed) (address : ℕ) → EndsInMemory p → p.base ≤ address → address < p.base + p.length
    → in_range (range_at p) address ≡ true
in_its_range p address ends above below =
    let first : p.base % 65536 ≡ p.base = omega arith in
    and_from (nat_le (p.base % 65536) address) (nat_lt address (p.base % 65536 + p.length))
    (le-leb (p.base % 65536) address (omega arith)) (lt-ltb address (p.base % 65536 + p.length) (omega arith))

-- a segment and its range have the same addresses
same_addresses : (p : Placed) (address : ℕ) → EndsInMemory p → in_range (range_at p) address ≡ is_in_placed p address
same_addresses p address ends = elim (cases_Bool (in_range (range_at p) address)) [
  | inl e ↦
      let inside = in_segment p address ends e in
      e ∙ sym (in_placed p address inside.0 inside.1)
  | inr e ↦ elim (cases_Bool (is_in_placed p address)) [
    | inl f ↦
        let inside = placed_bounds p address f in
        absurd (true≢false (sym (in_its_range p address ends inside.0 inside.1) ∙ e))
    | inr f ↦ e ∙ sym f
  ]
]

abbrev holds : ℕ → Range → Bool
holds address range = in_range range address

-- to leave out empty ranges leaves out no address
any_filled : (address : ℕ) (ranges : List Range) → list_any (holds address) (filled ranges) ≡ list_any (holds address) ranges
any_filled address [] = refl
any_filled address (r ∷ rs) = elim (cases_Bool (nat_lt 0 r.length)) [
  | inl e ↦
      ap (λ b. list_any (holds address) (cond b (r ∷ filled rs) (filled rs))) e
      ∙ ap (λ b. holds address r || b) (any_filled address rs)
  | inr e ↦
      ap (λ b. list_any (holds address) (cond b (r ∷ filled rs) (filled rs))) e
      ∙ any_filled address rs
      ∙ ap (λ b. b || list_any (holds address) rs) (sym (empty_holds address r e))
]

any_chosen : (chosen : ℕ → Bool) (address : ℕ) (ps : List Placed) → All EndsInMemory ps
    → list_any (holds address) (map range_at (filter (λ p. chosen p.id) ps)) ≡ is_in_any chosen ps address
any_chosen chosen address [] ends = refl
any_chosen chosen address (p ∷ ps) ends =
    let rest = any_chosen chosen address ps (All-tail EndsInMemory p ps ends) in
    let here = same_addresses p address (All-head EndsInMemory p ps ends) in
    elim (chosen p.id) as (λ b.
    list_any (holds address) (map range_at (cond b (p ∷ filter (λ p. chosen p.id) ps) (filter (λ p. chosen p.id) ps)))
    ≡ (b && is_in_placed p address || is_in_any chosen ps address)) [
      | true ↦ ap (λ b. b || list_any (holds address) (map range_at (filter (λ p. chosen p.id) ps))) here
          ∙ ap (λ b. is_in_placed p address || b) rest
      | false ↦ rest
    ]

top_of_both : (base long : ℕ) → (base % 65536 + long) % 65536 ≡ (base + long) % 65536
top_of_both base long = omega arith

pub located_regions_hold : (segments : List Placed) (areas : Areas) → All EndsInMemory segments
    → Arranges (located_code segments) (located_stack segments) (located_data segments) areas → HoldsSegments segments areas
located_regions_hold segments areas ends arranged =
    let stack : Placed = placed_in segments 3 in
    record {
      code = λ address.
          sym (list_any-IsPermutation (holds address) (located_code segments) areas.code arranged.same_code)
          ∙ any_filled address (map range_at (filter (λ p. p.id == 1) segments))
          ∙ any_chosen (λ id. id == 1) address segments ends;
      data_ranges = λ address.
          sym (list_any-IsPermutation (holds address) (located_data segments) areas.data_ranges arranged.same_data)
          ∙ any_filled address (map range_at (filter (λ p. is_data p.id) segments))
          ∙ any_chosen is_data address segments ends;
      stack = λ address.
          ap (λ (r : Range). in_range r address) arranged.same_stack
          ∙ same_addresses stack address (found_all EndsInMemory 3 segments (omega arith) ends);
      top = ap (λ (r : Range). (r.first + r.length) % 65536) arranged.same_stack ∙ top_of_both stack.base stack.length;
    }
