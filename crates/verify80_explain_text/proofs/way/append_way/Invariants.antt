-- what was made, and what is left to make
use Rattle.std.proofs.Common.{◌≡◌, ◌++◌, length}
use Rattle.verify80_explain_text.specs.Explained.{way_text}
use Rattle.verify80_explain_text.proofs.way.append_way.Given as goal

abbrev pub invariant-loop-rest : goal.invariant-loop-rest
invariant-loop-rest l = l.text.items ++ way_text l.code l.publics l.rest ≡ l.initial.text.items ++ way_text l.code l.publics l.fn.way

abbrev pub decreases-loop-rest : goal.decreases-loop-rest
decreases-loop-rest l = length l.rest
