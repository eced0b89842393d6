-- the bytes so far
use Rattle.rom80_find.specs.Blocks.{AreBytes}
use Rattle.rom80_find.specs.Dump.{dump_of}
use Rattle.rom80_find.proofs.bytes.bytes_of.Given as goal

abbrev pub invariant-loop-at : goal.invariant-loop-at
invariant-loop-at l = AreBytes (dump_of l.dump) l.at l.bytes.items
