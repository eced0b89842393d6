-- what was made, and what is left to make
use Rattle.std.proofs.Common.{◌≡◌, ◌++◌, length}
use Rattle.image80_text.specs.NameText.{named_text}
use Rattle.image80_text.proofs.lines.name_lines.Given as goal

abbrev pub invariant-loop-line : goal.invariant-loop-line
invariant-loop-line l =
    l.named.items ++ named_text l.code l.publics l.word l.rest ≡ named_text l.code l.publics l.word l.fn.text

abbrev pub decreases-loop-line : goal.decreases-loop-line
decreases-loop-line l = length l.rest
