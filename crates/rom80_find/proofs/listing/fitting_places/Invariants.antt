-- the places so far
use Rattle.std.proofs.Common.{◌*◌, ◌≤◌, List}
use Rattle.rom80_pattern.specs.declared.code_byte.CodeByte.{CodeByte}
use Rattle.rom80_find.specs.Fixups.{AreFixupsOf}
use Rattle.rom80_find.specs.Listed.{Lists}
use Rattle.rom80_find.specs.Marks.{AreSieved}
use Rattle.rom80_find.specs.Places.{ArePlaces}
use Rattle.rom80_find.proofs.listing.fitting_places.Given as goal

abbrev pub invariant-loop-block : goal.invariant-loop-block
invariant-loop-block l = record {
  count : l.places.count ≤ 4096 * l.block;
  places : (code : List CodeByte) → AreSieved l.dump code l.alive → AreFixupsOf code l.fixups → Lists (ArePlaces l.dump code (4096 * l.block)) l.places;
}
