-- the last modules so far
use Rattle.std.proofs.Common.{◌-◌, map, length}
use Rattle.link80_text.specs.Needs.{AreNeeds}
use Rattle.link80_text.proofs.needs.Needs.of.Given as goal

abbrev pub invariant-loop-done : goal.invariant-loop-done
invariant-loop-done l = AreNeeds (map (λ m. m.now) l.modules) (length l.modules - l.done) l.needs
