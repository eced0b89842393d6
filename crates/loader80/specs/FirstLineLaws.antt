-- The line of inputs that is reported, in other words: the first that is no line of inputs. (It follows from the definitions.)
use Rattle.std.specs.Prelude.{◌≡◌, ◌<◌, ◌+◌, ◌↔◌, ℕ, None, Some, is_some, List, [], ◌∷◌, ◌++◌, length, IsTrue}
use Rattle.std.specs.List.{AllByRecursion}
use Rattle.image80.specs.Lines.{parts}
use Rattle.loader80.specs.InputsText.{line_input, bad_line}

-- no line of inputs: if others follow, one of another form; and else what stands after the last line feed, if anything does
abbrev pub IsNoLine : List ℕ → (later : List (List ℕ)) → Type 0
IsNoLine line [] = 0 < length line
IsNoLine line (next ∷ later) = line_input line ≡ None

-- the line of this number, counted from 1, is no line of inputs, and each before it is one
pub record IsFirstOther (text : List ℕ) (n : ℕ) : Type 0 where
  pub earlier : List (List ℕ)
  pub line : List ℕ
  pub later : List (List ℕ)
  pub whole : parts text ≡ earlier ++ line ∷ later
  pub number : n ≡ length earlier + 1
  pub others : AllByRecursion (λ l. IsTrue (is_some (line_input l))) earlier
  pub is : IsNoLine line later

-- a number is answered exactly where it is that of the first
abbrev pub BadLineIsTheFirst : Type 0
BadLineIsTheFirst = (text : List ℕ) (n : ℕ) → bad_line text ≡ Some n ↔ IsFirstOther text n
