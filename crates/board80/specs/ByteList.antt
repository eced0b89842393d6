-- A list of answers. (The text of a board is this project's own.)
use Rattle.std.specs.Prelude.{List, Option}
use Rattle.board80.specs.declared.byte_list.Bytes.{Bytes}
use Rattle.board80.specs.declared.byte_list.Item.{Item}

-- items one after another, and then bytes that come for ever, if there are any
pub record ListedBytes : Type 0 where
  pub items : List Item
  pub for_ever : Option Bytes
