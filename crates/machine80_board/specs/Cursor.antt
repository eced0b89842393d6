-- How far a list of answers was given. (Lists of answers are this project's own.)
use Rattle.std.specs.Prelude.{◌≡◌, ℕ, ◌+◌, ◌*◌, ◌<◌, ◌≤◌, List, length, take, slice_index_or, None, Some}
use Rattle.board80.specs.declared.byte_list.Bytes.{Bytes}
use Rattle.board80.specs.declared.byte_list.Item.{Item}
use Rattle.machine80_board.specs.declared.cursor.Cursor.{Cursor}
use Rattle.board80.specs.Answers.{bytes_of, items_bytes}
use Rattle.board80.specs.ByteList.{ListedBytes}

-- A cursor has given this many bytes of a list: those of whole items, of whole turns of the next item, or of what comes for ever,
-- and of a part of a turn.
pub data IsAt (list : ListedBytes) (cursor : Cursor) (given : ℕ) : Type 0 where
  in_item : (item : Item) → cursor.item < length list.items → item ≡ slice_index_or list.items cursor.item item →
      cursor.turn ≤ item.times → (cursor.turn ≡ item.times → cursor.place ≡ 0) → cursor.place < length (bytes_of item.bytes) →
      given ≡ length (items_bytes (take cursor.item list.items)) + (cursor.turn * length (bytes_of item.bytes) + cursor.place) →
      IsAt list cursor given
  for_ever : (bytes : Bytes) (turns : ℕ) → cursor.item ≡ length list.items → list.for_ever ≡ Some bytes →
      cursor.place < length (bytes_of bytes) →
      given ≡ length (items_bytes list.items) + (turns * length (bytes_of bytes) + cursor.place) → IsAt list cursor given
  at_end : cursor.item ≡ length list.items → list.for_ever ≡ None → given ≡ length (items_bytes list.items) → IsAt list cursor given

-- a cursor stands at an item that is not used up, or behind all items
abbrev pub IsReady : List Item → Cursor → Type 0
IsReady items cursor = cursor.item < length items → (item : Item) → item ≡ slice_index_or items cursor.item item → cursor.turn < item.times

-- a cursor moves on by a byte of a turn that has `count` bytes; behind the last it stands before the first
pub record MovesInTurn (count : ℕ) (old new : Cursor) : Type 0 where
  pub item : new.item ≡ old.item
  pub turn : new.turn ≡ old.turn
  pub within : old.place + 1 < count → new.place ≡ old.place + 1
  pub around : old.place + 1 ≡ count → new.place ≡ 0

-- and counts the turns
pub record MovesInItem (count : ℕ) (old new : Cursor) : Type 0 where
  pub item : new.item ≡ old.item
  pub within : old.place + 1 < count → (new.place ≡ old.place + 1) × (new.turn ≡ old.turn)
  pub around : old.place + 1 ≡ count → (new.place ≡ 0) × (new.turn ≡ old.turn + 1)
