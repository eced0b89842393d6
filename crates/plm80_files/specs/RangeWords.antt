-- A range in the words of a line.
-- (The text of regions is this project's: a word, the first address and the length, with a blank between them.)
use Rattle.std.specs.Prelude.{◌≡◌, ◌⊎◌, ℕ, ◌<◌, Bool, true, List, ◌∷◌, ◌++◌, Some, codes}
use Rattle.image80.specs.{declared.range.Range.Range, Range.in_range}
use Rattle.plm80_console.specs.NumberText.{IsWordText, word_value}
use Rattle.plm80_files.specs.{Lines.line_at, declared.regions_words.RangeLine.RangeLine}

-- the words that begin lines which have a range
abbrev pub IsKeyword : List ℕ → Type 0
IsKeyword word = (word ≡ codes "CODE") ⊎ ((word ≡ codes "STACK") ⊎ (word ≡ codes "DATA"))

-- behind such a word stand the first address and the length of a range, in hexadecimal digits, with a blank before each
pub record IsInWords (line : List ℕ) (range : Range) : Type 0 where
  pub keyword : List ℕ
  pub first : List ℕ
  pub length : List ℕ
  pub is_keyword : IsKeyword keyword
  pub line_is : line ≡ keyword ++ 32 ∷ (first ++ 32 ∷ length)
  pub is_first : IsWordText first
  pub first_is : range.first ≡ word_value first
  pub is_length : IsWordText length
  pub length_is : range.length ≡ word_value length

-- the line of a number has these words, which are those of a range
pub record IsRangeLine (text : List ℕ) (number : ℕ) (line : RangeLine) : Type 0 where
  pub number_is : line.number ≡ number
  pub is_ended : Bool
  pub words_are : line_at text number ≡ Some (line.words.now, is_ended)
  pub range_is : IsInWords line.words.now line.range

-- two lines of a text share an address
pub record ShareAddress (text : List ℕ) (first second : RangeLine) : Type 0 where
  pub is_first : IsRangeLine text first.number first
  pub is_second : IsRangeLine text second.number second
  pub earlier : first.number < second.number
  pub address : ℕ
  pub in_first : in_range first.range address ≡ true
  pub in_second : in_range second.range address ≡ true
