-- Tables of what the lines of a board say of each place. (This project's own.)
use Rattle.std.specs.Prelude.{◌≡◌, ℕ, Bool, false, List, length, slice_get, slice_index_or, Option, None, Some}
use Rattle.board80.specs.declared.answers.Answers.{Answers}
use Rattle.board80.specs.declared.line.Line.{Line}
use Rattle.board80.specs.declared.line.Line.TheVariants.{Reads}
use Rattle.board80.specs.declared.place.Place.{Place}
use Rattle.board80.specs.Board.{IsPlace, in_device}
use Rattle.machine80_board.specs.Exchanges.{answers_at}
use Rattle.machine80_board.specs.Slots.{HaveSlots, slot_of}

-- the answers of a line, if it has any
abbrev pub answers_of_line : Option Line → Option Answers
answers_of_line (Some (Reads here answers)) = Some answers
answers_of_line _ = None

-- those of the line with this index
abbrev pub answers_of_index : List Line → Option ℕ → Option Answers
answers_of_index lines None = None
answers_of_index lines (Some index) = answers_of_line (slice_get lines index)

-- a table has, by slots, the index of the line whose answers the places get by `said`, which are some of the lines
pub record IsAnswering (lines said : List Line) (table : List (Option ℕ)) : Type 0 where
  pub whole : HaveSlots table
  pub found : (place : Place) → IsPlace place → answers_of_index lines (slice_index_or table (slot_of place) None) ≡ answers_at said place

-- marks say of each address whether it is a device's
pub record AreMarked (lines : List Line) (marks : List Bool) : Type 0 where
  pub whole : length marks ≡ 65536
  pub marked : (address : ℕ) → slice_index_or marks address false ≡ in_device lines address

-- both tables of lines
pub record IsIndex (lines : List Line) (answering : List (Option ℕ)) (devices : List Bool) : Type 0 where
  pub found : IsAnswering lines lines answering
  pub marked : AreMarked lines devices
