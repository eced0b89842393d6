-- The laws of the spellings of names.
use Rattle.std.proofs.Common.{◌≡◌, ℕ, ◌+◌, ◌-◌, List, ◌++◌, length, drop, slice_range, slice_index, refl, sym, ◌∙◌, ap, append_assoc, arith, IsTrue}
use Rattle.std.proofs.lemmas.Grind.{common_steps}
use Rattle.std.proofs.lemmas.List.{drop-drop, take_at, length-take-le, length-drop}
use Rattle.std.proofs.Math.Seq.{drop-append-add}
use Rattle.std.proofs.lemmas.Bool.{and_parts, ltb-true}
use Rattle.omf_core.specs.Name.{SpellsName, is_name, holds_name, holds_counted, counted_bytes, name_spelling}
use Rattle.omf_core.specs.Laws.{OneNameAtEachPlace, NamesExactlyWhereHeld, WrittenNameIsSpelled}

pub one_name : OneNameAtEachPlace
one_name bytes from to to' name name' a b =
    let same_length : length name ≡ length name' = sym a.length_byte ∙ b.length_byte in
    let same_to : to ≡ to' = omega (arith, a.all_counted, b.all_counted) in
    (sym a.name_bytes ∙ (ap (λ n. slice_range bytes (from + 1) n) same_to ∙ b.name_bytes), same_to)

-- The bytes from a place on begin with a name: it is spelled there.
pub name_at : (bytes : List ℕ) (from : ℕ) → IsTrue (holds_name (drop from bytes))
    → SpellsName bytes from (from + 1 + slice_index (drop from bytes) 0) (counted_bytes (drop from bytes))
name_at bytes from held =
    let parts = and_parts (holds_counted (drop from bytes)) (is_name (counted_bytes (drop from bytes))) held in
    let whole = ltb-true (slice_index (drop from bytes) 0) (length (drop from bytes)) parts.0 in
    let size : length (counted_bytes (drop from bytes)) ≡ slice_index (drop from bytes) 0 =
    length-take-le (slice_index (drop from bytes) 0) (drop 1 (drop from bytes)) (omega (arith, length-drop 1 (drop from bytes))) in
    let count : from + 1 + slice_index (drop from bytes) 0 - (from + 1) ≡ slice_index (drop from bytes) 0 = omega arith in
    record {
      length_byte = grind (arith, common_steps);
      name_bytes = rw (count, drop-drop 1 from bytes) refl;
      all_counted = omega arith;
      within = omega (arith, length-drop from bytes);
      is_one = parts.1;
    }

pub held_at_name : (bytes : List ℕ) (from to : ℕ) (name : List ℕ) → SpellsName bytes from to name → IsTrue (holds_name (drop from bytes))
held_at_name bytes from to name a = grind (arith, common_steps, a.length_byte, a.name_bytes, a.all_counted, a.within, a.is_one)

pub names_exactly_where_held : NamesExactlyWhereHeld
names_exactly_where_held bytes from = (
  λ held. (from + 1 + slice_index (drop from bytes) 0, counted_bytes (drop from bytes), name_at bytes from held),
  λ spelled. held_at_name bytes from spelled.0 spelled.1 spelled.2,
)

pub written_name_is_spelled : WrittenNameIsSpelled
written_name_is_spelled before after name taken =
    let count : length before + 1 + length name - (length before + 1) ≡ length name = omega arith in
    record {
      length_byte = grind (arith, common_steps);
      name_bytes = rw (count, append_assoc before (name_spelling name) after, drop-append-add before (name_spelling name ++ after) 1) (take_at name after (length name) refl);
      all_counted = refl;
      within = grind (arith, common_steps);
      is_one = taken;
    }
