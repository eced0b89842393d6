use Rattle.std.proofs.Common.{◌≡◌, ◌++◌, length}
use Rattle.board80.specs.Board.{AreBytes}
use Rattle.board80.specs.BoardText.{spaced_text}
use Rattle.board80.proofs.read_list.read_others.Given as goal

-- the bytes so far, and the text that is left
abbrev pub invariant-loop-byte : goal.invariant-loop-byte
invariant-loop-byte l = record {
  spelled : l.fn.text ≡ spaced_text l.others.items ++ l.rest;
  bytes : AreBytes l.others.items;
}

abbrev pub decreases-loop-byte : goal.decreases-loop-byte
decreases-loop-byte l = length l.rest
