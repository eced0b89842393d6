-- Numbers in texts of the system, as Linux writes them in /proc/self.
-- (proc(5): a label, blanks, and a number or several.)
use Rattle.std.specs.Prelude.{◌≡◌, ℕ, List, ◌++◌}
use Rattle.std.specs.Char.{is_not_whitespace}
use Rattle.std.specs.Str.{NoCharPasses}
use Rattle.plm80_console.specs.NumberText.{IsCountText, count_value}

-- nothing but blanks stands between the label and the digits of this number
pub record IsCountBehind (text label : List ℕ) (count : ℕ) : Type 0 where
  pub before : List ℕ
  pub gap : List ℕ
  pub digits : List ℕ
  pub rest : List ℕ
  pub is : text ≡ before ++ (label ++ (gap ++ (digits ++ rest)))
  pub blank : NoCharPasses is_not_whitespace gap
  pub digits_are : IsCountText digits
  pub count_is : count ≡ count_value digits
