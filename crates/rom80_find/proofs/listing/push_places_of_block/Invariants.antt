-- the places so far
use Rattle.std.proofs.Common.{◌+◌, ◌*◌, ◌≤◌, List}
use Rattle.rom80_find.specs.Blocks.{AreFitted}
use Rattle.rom80_find.specs.Dump.{DumpValue}
use Rattle.rom80_pattern.specs.declared.code_byte.CodeByte.{CodeByte}
use Rattle.rom80_find.specs.Listed.{Lists}
use Rattle.rom80_find.specs.Marks.{bit_in}
use Rattle.rom80_find.specs.Places.{ArePlaces}
use Rattle.rom80_find.proofs.listing.push_places_of_block.Given as goal

abbrev pub invariant-loop-word : goal.invariant-loop-word
invariant-loop-word l = record {
  count : l.places.count ≤ 4096 * l.block + 64 * l.word;
  places : (dump : DumpValue) (code fixups : List CodeByte)
      → AreFitted dump code fixups (4096 * l.block) 4096 (λ k. bit_in l.alive (4096 * l.block + k)) l.wrong
      → Lists (ArePlaces dump code (4096 * l.block)) l.fn.places → Lists (ArePlaces dump code (4096 * l.block + 64 * l.word)) l.places;
}
