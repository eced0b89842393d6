-- what was appended, and what is left to append
use Rattle.std.proofs.Common.{◌≡◌, ◌++◌, length}
use Rattle.std.specs.Prelude.{None}
use Rattle.verify80_explain_text.specs.Reaching.{lines_by}
use Rattle.verify80_explain_text.specs.ReachGraph.{box_of}
use Rattle.verify80_explain_text.proofs.digraph.append_boxes.Given as goal

abbrev pub invariant-loop-rest : goal.invariant-loop-rest
invariant-loop-rest l =
    l.text.items ++ lines_by (box_of l.image l.publics) l.before l.rest ≡ l.initial.text.items ++ lines_by (box_of l.image l.publics) None l.fn.points

abbrev pub decreases-loop-rest : goal.decreases-loop-rest
decreases-loop-rest l = length l.rest
