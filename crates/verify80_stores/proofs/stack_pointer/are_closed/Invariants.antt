use Rattle.verify80_stores.proofs.Names.{AreClosed}
use Rattle.verify80_stores.proofs.stack_pointer.are_closed.Given as goal

abbrev pub invariant-loop-address : goal.invariant-loop-address
invariant-loop-address l = AreClosed l.code l.marks l.address
