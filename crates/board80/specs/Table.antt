-- A table of answers. (The text of a board is this project's own.)
use Rattle.std.specs.Prelude.{ℕ, List}
use Rattle.board80.specs.declared.place.Place.{Place}
use Rattle.board80.specs.declared.table.Row.{Row}

-- answers by the last byte put out at a port or stored at a cell: those of the rows, and another one for every other byte
pub record TableRows : Type 0 where
  pub source : Place
  pub rows : List Row
  pub other : ℕ
