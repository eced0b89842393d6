use Rattle.std.proofs.Common.{◌≡◌, ◌∷◌, ℕ, List, length}
use Rattle.image80.specs.Lines.{parts}
use Rattle.board80.specs.Board.{GoodStart}
use Rattle.board80.specs.BoardText.{heading}
use Rattle.board80.specs.Reading.{HasSeen}
use Rattle.board80.proofs.read.read_lines.Given as goal

abbrev pub invariant-loop-part : goal.invariant-loop-part
invariant-loop-part l = record {
  good : (whole : List ℕ) → parts whole ≡ heading ∷ parts l.fn.text → GoodStart whole l.lines.items (parts l.rest);
  seen : HasSeen l.seen l.lines.items;
}

abbrev pub decreases-loop-part : goal.decreases-loop-part
decreases-loop-part l = length l.rest
