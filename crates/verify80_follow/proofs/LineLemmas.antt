-- Lines that are appended part by part.
use Rattle.std.specs.Prelude.{◌≡◌, ◌++◌, ℕ, List}
use Rattle.std.proofs.Common.{◌∙◌, ap, append_assoc}

-- what stands behind a part
pub behind : (x before part rest : List ℕ) → x ≡ before ++ part → x ++ rest ≡ before ++ (part ++ rest)
behind x before part rest is = ap (λ (l : List ℕ). l ++ rest) is ∙ append_assoc before part rest
