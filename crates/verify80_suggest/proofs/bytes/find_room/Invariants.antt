use Rattle.std.specs.Prelude.{◌&&◌, ◌||◌, ◌==◌, length}
use Rattle.image80.specs.Range.{in_ranges}
use Rattle.verify80_cases.specs.Marks.{AreMarks, marked}
use Rattle.verify80_suggest.proofs.bytes.find_room.Given as goal

abbrev pub invariant-loop-address : goal.invariant-loop-address
invariant-loop-address l = record {
  marks : AreMarks (λ address. marked l.bytes address && (length l.rom == 0 || in_ranges l.rom address)) l.address l.marks.items;
}
