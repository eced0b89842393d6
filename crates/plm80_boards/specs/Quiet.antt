-- The RAM of a board that only a program writes. (That it is taken from the lines of a board is this project's own.)
use Rattle.std.specs.Prelude.{◌≡◌, ◌≢◌, ℕ, true, List, [], Option, None, Some}
use Rattle.image80.specs.declared.range.Range.{Range}
use Rattle.image80.specs.{Range.in_ranges, Regions.Areas}
use Rattle.board80.specs.Board.{interrupts_of, ranges_of}
use Rattle.board80.specs.declared.line.{Kind.TheVariants.Ram, Line.Line}

-- each address of the ranges is one of the others
abbrev pub AreWithin : (ranges others : List Range) → Type 0
AreWithin ranges others = (at : ℕ) → in_ranges ranges at ≡ true → in_ranges others at ≡ true

-- each is RAM of the board and data
pub record AreInRam (board : List Line) (regions : Areas) (ranges : List Range) : Type 0 where
  pub ram : AreWithin ranges (ranges_of Ram board)
  pub are_data : AreWithin ranges regions.data_ranges

-- the RAM that only a program writes which takes no interrupts: RAM of the board in data, and none if it has interrupts; or that which is
-- named if there is no board
abbrev pub IsQuietIn : Option (List Line) → Areas → (named quiet : List Range) → Type 0
IsQuietIn None regions named quiet = quiet ≡ named
IsQuietIn (Some board) regions named quiet = AreInRam board regions quiet × (interrupts_of board ≢ [] → quiet ≡ [])
