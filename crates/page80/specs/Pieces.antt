-- Pieces of a page. (This project's own.)
use Rattle.std.specs.Prelude.{◌≡◌, ℕ, List, []}
use Rattle.page80.specs.Reading.{reading_after, shown_from, shown_in, tag, text}

-- a piece behind which a reader is in text
abbrev pub IsWhole : List ℕ → Type 0
IsWhole piece = reading_after text piece ≡ text

-- a piece of markup: it shows nothing
pub record IsMarkup (piece : List ℕ) : Type 0 where
  pub whole : IsWhole piece
  pub nothing : shown_in piece ≡ []

-- the beginning of a tag
pub record IsTagBegun (piece : List ℕ) : Type 0 where
  pub inside : reading_after text piece ≡ tag
  pub nothing : shown_in piece ≡ []

-- what goes on in a tag
pub record StaysInTag (piece : List ℕ) : Type 0 where
  pub inside : reading_after tag piece ≡ tag
  pub nothing : shown_from tag piece ≡ []

-- the end of a tag that has begun
pub record EndsTag (piece : List ℕ) : Type 0 where
  pub ends : reading_after tag piece ≡ text
  pub nothing : shown_from tag piece ≡ []
