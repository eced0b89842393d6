use Rattle.std.proofs.Common.{◌≡◌, ◌++◌}
use Rattle.image80_text.specs.Listing.{lines_from, range_lines}
use Rattle.image80_text.proofs.list_text.append_range.Given as goal

abbrev pub invariant-loop-left : goal.invariant-loop-left
invariant-loop-left l = l.text.items ++ lines_from l.memory l.at 0 l.left ≡ l.initial.text.items ++ range_lines l.fn.memory l.fn.range

abbrev pub decreases-loop-left : goal.decreases-loop-left
decreases-loop-left l = l.left
