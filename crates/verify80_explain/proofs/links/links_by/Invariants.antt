use Rattle.std.specs.Prelude.{◌+◌, ◌-◌, length}
use Rattle.verify80_explain.proofs.links.links_by.Given as goal

abbrev pub decreases-loop-last : goal.decreases-loop-last
decreases-loop-last l = (length l.calls + 1) - length l.callers.items
