-- A rule at every number below a bound, from one computation over all of them.
use Rattle.std.proofs.Common.{◌≡◌, ℕ, zero, suc, Bool, true, false, not, ◌&&◌, ◌<◌, refl}
use Rattle.std.proofs.lemmas.Bool.Decides.{Decides-below_and}

-- whether a test passes at every number below n
abbrev pub passes_below : ℕ → (ℕ → Bool) → Bool
passes_below zero test = true
passes_below (suc n) test = test n && passes_below n test

pub passes_at : (n : ℕ) (test : ℕ → Bool) → passes_below n test ≡ true → (k : ℕ) → k < n → test k ≡ true
passes_at n test =
    (Decides-below_and test (λ k. test k ≡ true) (λ m. passes_below m test) (λ k. ((λ h. h), (λ h. h))) refl (λ _. refl) n).0

-- whether two flags are the same
abbrev pub same_flag : Bool → Bool → Bool
same_flag true b = b
same_flag false b = not b

pub same_flag-true : (a b : Bool) → same_flag a b ≡ true → a ≡ b
same_flag-true true true h = refl
same_flag-true true false h = cc
same_flag-true false true h = cc
same_flag-true false false h = refl

-- both tests passed
pub first_passed : (a b : Bool) → (a && b) ≡ true → a ≡ true
first_passed true b h = refl
first_passed false b h = cc

pub second_passed : (a b : Bool) → (a && b) ≡ true → b ≡ true
second_passed true b h = h
second_passed false b h = cc
