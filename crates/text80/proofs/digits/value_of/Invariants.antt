use Rattle.std.proofs.Common.{◌≢◌, ℕ, ◌<◌, [], ◌∷◌}
use Rattle.text80.specs.Digits.{digit_text}
use Rattle.text80.proofs.digits.value_of.Given as goal

-- the byte is none of the digits so far
abbrev pub invariant-loop-value : goal.invariant-loop-value
invariant-loop-value l = (value : ℕ) → value < l.value → l.byte ∷ [] ≢ digit_text value
