-- A board whose file is read before the other files of a command, and the ranges that the command takes of it.
-- (That a board stands in place of other options is this project's own.)
use Rattle.std.specs.Prelude.{◌≡◌, ℕ, List, [], ◌∷◌, ◌++◌, Option, None, Some, All, codes, map, option_map}
use Rattle.std.specs.Borrow.{Bor}
use Rattle.clap.specs.{declared.parser.matches.ArgMatches.ArgMatches, Matches.first_value, Matches.found_of}
use Rattle.image80.specs.declared.range.Range.{Range}
use Rattle.board80.specs.Board.{Spells, interrupts_of, ranges_of}
use Rattle.board80.specs.declared.line.{Kind.Kind, Line.Line}
use Rattle.board80.specs.declared.line.Kind.TheVariants.{Device, Ram}
use Rattle.plm80_console.specs.{Answer.AnswerValue, NumberText.IsWordText, NumberText.word_value, Ranges.AreRangesOf}
use Rattle.plm80_console.specs.Journal.{FileValue, Journal, and_read_files}

-- the path of a board's text, if one is given
abbrev pub IsBoardPath : ArgMatches → Option (Bor (List ℕ)) → Type 0
IsBoardPath matches path = option_map (λ p. p.now) path ≡ first_value (found_of matches) (codes "board")

abbrev pub board_paths : Option (Bor (List ℕ)) → List (List ℕ)
board_paths None = []
board_paths (Some path) = path.now ∷ []

-- the board that the file of a path spells; without a path there is none
pub data IsBoardOf : Option (Bor (List ℕ)) → List FileValue → Option (List Line) → Type 0 where
  none : IsBoardOf None [] None
  one : (path : Bor (List ℕ)) (file : FileValue) (board : List Line) → file.path ≡ path.now → Spells file.bytes board
      → IsBoardOf (Some path) (file ∷ []) (Some board)

-- the first of these files spells no board
abbrev pub HaveNoBoard : List FileValue → Type 0
HaveNoBoard [] = ⊥
HaveNoBoard (file ∷ files) = (board : List Line) → Spells file.bytes board → ⊥

-- the file was read, if a path is given, and this is its board, which no other is
pub record IsBoardRead (path : Option (Bor (List ℕ))) (old new : Journal) (board : Option (List Line)) : Type 0 where
  pub files : List FileValue
  pub is_board : IsBoardOf path files board
  pub alone : (other : Option (List Line)) → IsBoardOf path files other → other ≡ board
  pub journal : new ≡ and_read_files old files

-- an answer to the files of a command, the first of which is that of a board if its path is given
pub record WithBoard (path : Option (Bor (List ℕ))) (Answers : Option (List Line) → List FileValue → AnswerValue → Type 0)
    (files : List FileValue) (answer : AnswerValue) : Type 0 where
  pub board : Option (List Line)
  pub board_files : List FileValue
  pub is_board : IsBoardOf path board_files board
  pub others : List FileValue
  pub files_are : files ≡ board_files ++ others
  pub answers : Answers board others answer

-- the ranges of one kind of memory: the board's, or those that the values of an option write if there is no board
abbrev pub AreRangesIn : Kind → Option (List Line) → (texts : List (List ℕ)) → List Range → Type 0
AreRangesIn kind None texts ranges = AreRangesOf texts ranges
AreRangesIn kind (Some board) texts ranges = ranges ≡ ranges_of kind board

-- the ranges of a board that hold data: its RAM, and its devices
abbrev pub data_ranges_of : List Line → List Range
data_ranges_of board = ranges_of Ram board ++ ranges_of Device board

-- the ranges that hold data: the board's, or those that the values of an option write if there is no board
abbrev pub AreDataRangesIn : Option (List Line) → (texts : List (List ℕ)) → List Range → Type 0
AreDataRangesIn None texts ranges = AreRangesOf texts ranges
AreDataRangesIn (Some board) texts ranges = ranges ≡ data_ranges_of board

-- the addresses of handlers: those of the board's interrupts, or those that the values of an option write if there is no board
abbrev pub interrupts_in : Option (List Line) → (values : List (Bor (List ℕ))) → List ℕ
interrupts_in None values = map (λ value. word_value value.now) values
interrupts_in (Some board) values = interrupts_of board

-- the values of an option write such addresses, which none has to if there is a board
abbrev pub AreInterruptsIn : Option (List Line) → (values : List (Bor (List ℕ))) → Type 0
AreInterruptsIn None values = All (λ value. IsWordText value.now) values
AreInterruptsIn (Some board) values = Unit {0}
