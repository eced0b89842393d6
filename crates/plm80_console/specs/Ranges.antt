-- Ranges of addresses as options write them. (This form is this project's own.)
use Rattle.std.specs.Prelude.{◌≡◌, ◌≤◌, ◌+◌, ℕ, List, [], ◌∷◌, ◌++◌}
use Rattle.image80.specs.declared.range.Range.{Range}
use Rattle.plm80_console.specs.NumberText.{IsWordText, word_value}

-- a first address, a colon and a length; the range ends in memory
pub record IsRangeText (text : List ℕ) (range : Range) : Type 0 where
  pub before : List ℕ
  pub behind : List ℕ
  pub is_first : IsWordText before
  pub is_length : IsWordText behind
  pub first_is : range.first ≡ word_value before
  pub length_is : range.length ≡ word_value behind
  pub text_is : text ≡ before ++ 58 ∷ behind
  pub in_memory : range.first + range.length ≤ 65536

-- the ranges that texts write, one after another
pub data AreRangesOf : (texts : List (List ℕ)) → List Range → Type 0 where
  none : AreRangesOf [] []
  more : (texts : List (List ℕ)) (text : List ℕ) (ranges : List Range) (range : Range)
      → AreRangesOf texts ranges → IsRangeText text range → AreRangesOf (texts ++ text ∷ []) (ranges ++ range ∷ [])
