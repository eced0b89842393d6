use Rattle.std.specs.Prelude.{take}
use Rattle.verify80_suggest.specs.Names.{Marks}
use Rattle.verify80_suggest.proofs.tables.mark_all.Given as goal

abbrev pub invariant-loop-address : goal.invariant-loop-address
invariant-loop-address l = record {
  marks : Marks l.fn.marks.items (take l.address-index l.addresses) l.marks.items;
}
