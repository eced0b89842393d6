use Rattle.verify80_stores.proofs.Names.{IfSome, is_quiet, AreShown}
use Rattle.verify80_stores.proofs.showing.show.Given as goal

abbrev pub invariant-loop-kind : goal.invariant-loop-kind
invariant-loop-kind l = IfSome l.shown (λ s. AreShown l.image (is_quiet l.image.regions l.quiet) l.reached s.items)
