use Rattle.verify80_suggest.specs.Names.{AreNamedBelow}
use Rattle.verify80_suggest.proofs.names.find_named.Given as goal

abbrev pub invariant-loop-address : goal.invariant-loop-address
invariant-loop-address l = record {
  named : AreNamedBelow l.code l.reached l.address l.named.items;
}
