-- the bytes so far
use Rattle.std.proofs.Common.{take}
use Rattle.rom80_find.specs.Fixups.{AreOf, first_number}
use Rattle.rom80_find.proofs.fitting.count_of_value.Given as goal

abbrev pub invariant-loop-index : goal.invariant-loop-index
invariant-loop-index l = AreOf (first_number l.bytes) (take l.index l.bytes)
