use Rattle.verify80_suggest.specs.Names.{SetsNone}
use Rattle.verify80_suggest.proofs.setters.find_setter.Given as goal

abbrev pub invariant-loop-address : goal.invariant-loop-address
invariant-loop-address l = record {
  none : SetsNone l.code l.reached l.fn.from l.address;
}
