-- what was made, and what is left to make
use Rattle.std.proofs.Common.{◌≡◌, ◌++◌, length}
use Rattle.image80_text.specs.NameText.{labelled_text}
use Rattle.image80_text.proofs.lines.label_lines.Given as goal

abbrev pub invariant-loop-line : goal.invariant-loop-line
invariant-loop-line l =
    l.labelled.items ++ labelled_text l.publics l.numbered l.rest ≡ labelled_text l.publics l.numbered l.fn.text

abbrev pub decreases-loop-line : goal.decreases-loop-line
decreases-loop-line l = length l.rest
