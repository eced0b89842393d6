-- Tables with a mark for each address. (This project's own.)
use Rattle.std.specs.Prelude.{◌≡◌, ℕ, ◌<◌, Bool, false, List, length, get_or}

-- whether an address is marked in a table
abbrev pub marked : List Bool → ℕ → Bool
marked marks address = get_or marks address false

-- a table marks exactly the addresses below a limit that pass a test
pub record AreMarks (test : ℕ → Bool) (limit : ℕ) (marks : List Bool) : Type 0 where
  pub size : length marks ≡ limit
  pub exact : (address : ℕ) → address < limit → marked marks address ≡ test address
