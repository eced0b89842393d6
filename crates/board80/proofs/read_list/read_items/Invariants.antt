use Rattle.std.proofs.Common.{◌≡◌, ◌++◌, length}
use Rattle.std.specs.Prelude.{All}
use Rattle.board80.specs.Board.{IsItem}
use Rattle.board80.specs.BoardText.{items_text}
use Rattle.board80.specs.Reading.{IsAtEnd}
use Rattle.board80.proofs.read_list.read_items.Given as goal

-- the items so far, and the text that is left
abbrev pub invariant-loop-items : goal.invariant-loop-items
invariant-loop-items l = record {
  spelled : l.fn.text ≡ items_text l.items.items ++ l.rest;
  proper : All IsItem l.items.items;
  at_end : IsAtEnd l.rest;
}

abbrev pub decreases-loop-items : goal.decreases-loop-items
decreases-loop-items l = length l.rest
