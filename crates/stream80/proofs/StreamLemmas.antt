-- What is appended piece by piece, and which answers count no failure.
use Rattle.std.proofs.Common.{◌≡◌, ℕ, zero, suc, ◌+◌, ◌-◌, ◌≤◌, List, Option, Ok, length, take, drop, arith, refl, length-drop}
use Rattle.std.proofs.Math.Seq.{take-add}
use Rattle.std.proofs.lemmas.List.{take_all}
use Rattle.std.proofs.KnownBytes.{Appends-trans}
use Rattle.std.specs.Io.KnownBytes.{Appends}
use Rattle.stream80.specs.Failures.{write_failures}

-- a write that took some bytes is no failure
pub write_failures-some : (E : Type 0) (n : ℕ) → (n ≡ 0 → ⊥) → write_failures {E = E} (Ok n) ≡ 0
write_failures-some E zero some = absurd (some refl)
write_failures-some E (suc n) some = refl

-- what is taken from the front of the rest stands behind what was taken before
pub Appends-next : (a b c : Option (List ℕ)) (bytes : List ℕ) (at n : ℕ) → n ≤ length bytes - at
    → Appends a b (take at bytes) → Appends b c (take n (take (length bytes - at) (drop at bytes)))
    → Appends a c (take (at + n) bytes)
Appends-next a b c bytes at n within front next =
    let whole : take (length bytes - at) (drop at bytes) ≡ drop at bytes =
    take_all (length bytes - at) (drop at bytes) (omega (arith, length-drop at bytes)) in
    rw (take-add at n bytes) (Appends-trans a b c _ _ front (rw whole at next))
