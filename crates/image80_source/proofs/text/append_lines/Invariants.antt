use Rattle.std.proofs.Common.{◌≡◌, ◌++◌, length}
use Rattle.std.specs.Prelude.{All}
use Rattle.image80_source.specs.Placed.{IsShort}
use Rattle.image80_source.specs.SourceText.{lines_text}
use Rattle.image80_source.proofs.text.append_lines.Given as goal

-- what was appended, and what is left to append
abbrev pub invariant-loop-rest : goal.invariant-loop-rest
invariant-loop-rest l = record {
  text : l.out.items ++ lines_text l.labels l.behind l.rest ≡ l.initial.out.items ++ lines_text l.labels 0 l.fn.lines;
  short : All IsShort l.rest;
}

abbrev pub decreases-loop-rest : goal.decreases-loop-rest
decreases-loop-rest l = length l.rest
