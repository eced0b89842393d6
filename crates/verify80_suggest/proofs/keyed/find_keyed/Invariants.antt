use Rattle.verify80_suggest.specs.Tables.{AreKeyedBelow}
use Rattle.verify80_suggest.proofs.keyed.find_keyed.Given as goal

abbrev pub invariant-loop-address : goal.invariant-loop-address
invariant-loop-address l = record {
  marks : AreKeyedBelow l.code l.order l.covered l.loaded l.goals l.address l.marks.items;
}
