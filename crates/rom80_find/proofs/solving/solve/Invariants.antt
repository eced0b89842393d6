-- the table for the bytes so far
use Rattle.std.proofs.Common.{◌≡◌, take, length}
use Rattle.rom80_find.specs.Dump.{dump_of}
use Rattle.rom80_find.specs.Places.{Describes}
use Rattle.rom80_find.proofs.solving.solve.Given as goal

abbrev pub invariant-loop-index : goal.invariant-loop-index
invariant-loop-index l = record {
  whole : length l.table ≡ length l.fn.table;
  table : Describes (dump_of l.dump) (take l.index l.code) l.address l.table;
}
