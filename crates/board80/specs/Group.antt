-- Bytes in brackets. (The text of a board is this project's own.)
use Rattle.std.specs.Prelude.{ℕ, List}

-- the bytes of a group: a first one, and any number of others
pub record GroupBytes : Type 0 where
  pub first : ℕ
  pub others : List ℕ
