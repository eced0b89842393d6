-- A range at 0 that no segment overlaps, and the three bytes of the restart.
use Rattle.std.proofs.Common.{◌≡◌, ℕ, ◌%◌, ◌/◌, Bool, true, false, cond, ◌||◌, List, [], ◌∷◌, ◌++◌, map, refl, sym, ap, ◌∙◌, arith, inl, inr}
use Rattle.std.specs.Prelude.{not, ◌==◌, None, filter, find, All, if◌then◌else◌}
use Rattle.std.proofs.lemmas.Bool.{cases_Bool}
use Rattle.std.proofs.lemmas.Bool.Decides.{nat_tests}
use Rattle.std.proofs.lemmas.List.Elements.{All-head, All-tail, All-cons, All-nil}
use Rattle.image80.specs.declared.range.Range.{Range}
use Rattle.image80.specs.Range.{in_range}
use Rattle.image80.specs.Image.{PlacedBytes, byte_at, byte_of, covers}
use Rattle.image80.specs.Memory.{byte_at-snoc}
use Rattle.image80.specs.Regions.{AreDisjoint, held}
use Rattle.place80.specs.declared.placed_segments.Placed.{Placed}
use Rattle.place80.specs.PlaceFault.{overlaps, beside_each, pairs, with_each, absolute_places, first_sharing}
use Rattle.omf_model.specs.Modules.{ModuleValue}
use Rattle.omf_model.specs.ImageByte.{image_byte}
use Rattle.place80.specs.declared.options.Options.{Options}
use Rattle.place80.specs.Layout.{program_bases}
use Rattle.place80.specs.Locating.{HoldsProgram, range_at, located_code, located_stack, located_data}
use Rattle.place80.specs.Restart.{restart_place, restart_pairs, restart_range, restart_chunk, byte_with_restart, HoldsProgramAndRestart}
use Rattle.place80.proofs.LocatedDisjoint.{EndsInMemory}
use Rattle.place80.proofs.PairLemmas.{sharing_of_both, sharing_beside}
use Rattle.place80.proofs.LocatedApart.{holds, held_more, held_append, held_filled, held_stack, held_in_three, held_once, not_in}
use Rattle.place80.proofs.OptionLemmas.{find_none, none_of_both, none_mapped}

-- nothing shares an address with the restart, so no segment does
pub none_beside : (m : ModuleValue) (segments : List Placed) → first_sharing (restart_pairs m segments) ≡ None
    → find (overlaps restart_place) segments ≡ None
none_beside m segments none =
    none_mapped (λ q. (restart_place, q)) (find (overlaps restart_place) segments)
    (sym (sharing_beside restart_place segments)
    ∙ (none_of_both (first_sharing (beside_each restart_place segments)) (first_sharing (with_each (restart_place ∷ []) (absolute_places m.contents)))
    (sym (sharing_of_both (beside_each restart_place segments) (with_each (restart_place ∷ []) (absolute_places m.contents))) ∙ none)).0)

-- no segment holds an address of the restart
none_hold : (ps : List Placed) (address : ℕ) → All EndsInMemory ps → find (overlaps restart_place) ps ≡ None →
    in_range restart_range address ≡ true → held address (map range_at ps) ≡ 0
none_hold [] address ends none inside = refl
none_hold (q ∷ qs) address ends none inside =
    let parts = find_none (overlaps restart_place) q qs none in
    let out : holds address (range_at q) ≡ 0 =
    ap (λ b. cond b 1 0) (not_in restart_place q address (omega arith) (All-head EndsInMemory q qs ends) parts.0 inside) in
    let rest : held address (map range_at qs) ≡ 0 = none_hold qs address (All-tail EndsInMemory q qs ends) parts.1 inside in
    held_more address (range_at q) (map range_at qs) ∙ omega arith

pub disjoint_with_restart : (segments : List Placed) → All EndsInMemory segments → find (λ pq. overlaps pq.0 pq.1) (pairs segments) ≡ None →
    find (overlaps restart_place) segments ≡ None →
    AreDisjoint ((located_code segments ++ restart_range ∷ []) ++ located_stack segments ∷ located_data segments)
disjoint_with_restart segments ends none free address =
    let code = held_filled address (map range_at (filter (λ p. p.id == 1) segments)) in
    let other = held_filled address (map range_at (filter (λ p. not (p.id == 1 || p.id == 3)) segments)) in
    let front = held_append address (located_code segments ++ restart_range ∷ []) (located_stack segments ∷ located_data segments) in
    let more = held_append address (located_code segments) (restart_range ∷ []) in
    let one = held_more address restart_range [] in
    let back = held_more address (located_stack segments) (located_data segments) in
    let stack = held_stack address segments in
    let three = held_in_three address segments in
    let once = held_once address segments ends none in
    elim (cases_Bool (in_range restart_range address)) [
      | inl e ↦
          let held_one : holds address restart_range ≡ 1 = ap (λ b. cond b 1 0) e in
          let zero : held address (map range_at segments) ≡ 0 = none_hold segments address ends free e in
          omega (arith, code, other, front, more, one, back, stack, three, held_one, zero)
      | inr e ↦
          let held_none : holds address restart_range ≡ 0 = ap (λ b. cond b 1 0) e in
          omega (arith, code, other, front, more, one, back, stack, three, once, held_none)
    ]

-- one more range that keeps the rules
pub all_with : (P : Range → Type 0) (ranges : List Range) (r : Range) → All P ranges → P r → All P (ranges ++ r ∷ [])
all_with P [] r all this = All-cons P r [] this (All-nil P)
all_with P (x ∷ xs) r all this = All-cons P x (xs ++ r ∷ []) (All-head P x xs all) (all_with P xs r (All-tail P x xs all) this)

three_bytes : (start other address : ℕ) (a b c : Bool) → (address == 0) ≡ a → (address == 1) ≡ b → (address == 2) ≡ c →
    (if covers (restart_chunk start) address then byte_of (restart_chunk start) address else other)
    ≡ (if a then 0xC3 else if b then start % 256 else if c then start / 256 else other)
three_bytes start other address true b c ea eb ec = let is : address ≡ 0 = grind (arith, nat_tests) in rw is refl
three_bytes start other address false true c ea eb ec = let is : address ≡ 1 = grind (arith, nat_tests) in rw is refl
three_bytes start other address false false true ea eb ec = let is : address ≡ 2 = grind (arith, nat_tests) in rw is refl
three_bytes start other address false false false ea eb ec =
    let out : covers (restart_chunk start) address ≡ false = grind (arith, nat_tests) in
    rw out refl

-- the byte at an address, with the restart's chunk over the others
pub restart_bytes : (start : ℕ) (chunks : List PlacedBytes) (address : ℕ) →
    byte_at (chunks ++ restart_chunk start ∷ []) address ≡ byte_with_restart start (byte_at chunks address) address
restart_bytes start chunks address = byte_at-snoc chunks (restart_chunk start) address ∙ three_bytes start (byte_at chunks address) address (address == 0) (address == 1) (address == 2) refl refl refl

pub restart_memory : (options : Options) (m : ModuleValue) (start : ℕ) (chunks more : List PlacedBytes) → more ≡ chunks ++ restart_chunk start ∷ []
    → HoldsProgram options m chunks → HoldsProgramAndRestart options m start more
restart_memory options m start chunks more is holds address =
    ap (λ (l : List PlacedBytes). byte_at l address) is
    ∙ restart_bytes start chunks address
    ∙ ap (λ (n : ℕ). byte_with_restart start n address) (holds address)
