-- Marks of addresses, none yet.
use Rattle.std.proofs.Common.{◌≡◌, ℕ, zero, suc, Bool, false, List, get_or, refl, ap, ◌∙◌}
use Rattle.std.specs.Prelude.{replicate}

all_same : {A : Type 0} (n k : ℕ) (x : A) → get_or (replicate n x) k x ≡ x
all_same zero k x = refl
all_same (suc n) zero x = refl
all_same (suc n) (suc k) x = all_same n k x

pub no_marks : (marks : List Bool) → marks ≡ replicate 65536 false → (at : ℕ) → get_or marks at false ≡ false
no_marks marks is at = ap (λ (l : List Bool). get_or l at false) is ∙ all_same 65536 at false
