-- the places so far
use Rattle.std.proofs.Common.{◌+◌, ◌≤◌, List}
use Rattle.rom80_find.specs.Blocks.{AreFitted}
use Rattle.rom80_find.specs.Dump.{DumpValue}
use Rattle.rom80_pattern.specs.declared.code_byte.CodeByte.{CodeByte}
use Rattle.rom80_find.specs.Listed.{Lists}
use Rattle.rom80_find.specs.Marks.{has_bit}
use Rattle.rom80_find.specs.Places.{ArePlaces}
use Rattle.rom80_find.proofs.listing.push_places_of_word.Given as goal

abbrev pub invariant-loop-index : goal.invariant-loop-index
invariant-loop-index l = record {
  count : l.places.count ≤ l.first + l.index;
  places : (dump : DumpValue) (code fixups : List CodeByte) → AreFitted dump code fixups l.first 64 (has_bit l.alive) l.wrong
      → Lists (ArePlaces dump code l.first) l.fn.places → Lists (ArePlaces dump code (l.first + l.index)) l.places;
}
