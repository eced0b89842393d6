-- More points than there is room for: two of them have one number.
use Rattle.std.proofs.Common.{◌≡◌, ◌≢◌, ◌<◌, inl, inr, ℕ, zero, suc, Bool, true, false, nat_eq, refl, sym, ap, subst, ◌∙◌, arith}
use Rattle.std.specs.Prelude.{if◌then◌else◌}
use Rattle.std.proofs.lemmas.Bool.{cases_eq}
use Rattle.std.specs.Cmp.{unsigned_Decides}

-- the first numbers are taken to numbers below a limit, no two to one
pub record Injects (f : ℕ → ℕ) (count limit : ℕ) : Type 0 where
  pub within : (n : ℕ) → n < count → f n < limit
  pub apart : (n m : ℕ) → n < count → m < count → f n ≡ f m → n ≡ m

-- what was taken to one number is taken where the last one was
abbrev moved : (ℕ → ℕ) → (last top n : ℕ) → ℕ
moved f last top n = if nat_eq (f n) top then f last else f n

not_eq : (a b : ℕ) → a ≢ b → nat_eq a b ≡ false
not_eq a b ne = by (nat_eq a b) refl
  where
    by : (x : Bool) → nat_eq a b ≡ x → nat_eq a b ≡ false
    by true e = absurd (ne ((unsigned_Decides a b).0 e))
    by false e = e

smaller : (a limit : ℕ) → a < suc limit → a ≢ limit → a < limit
smaller a limit less ne = elim (cases_eq a limit) [
  | inl e ↦ absurd (ne e)
  | inr apart ↦ omega (arith, less, apart)
]

pub too_many : (limit count : ℕ) (f : ℕ → ℕ) → limit < count → Injects f count limit → ⊥
too_many zero count f less is = absurd (let h = is.within 0 less in omega arith)
too_many (suc limit) zero f less is = absurd (omega arith)
too_many (suc limit) (suc count) f less is = too_many limit count (moved f count limit) (omega arith) (record { within = below; apart = no_two })
  where
    here : (n : ℕ) → f n ≡ limit → moved f count limit n ≡ f count
    here n e = ap (λ b. if b then f count else f n) ((unsigned_Decides (f n) limit).1 e)

    there : (n : ℕ) → f n ≢ limit → moved f count limit n ≡ f n
    there n ne = ap (λ b. if b then f count else f n) (not_eq (f n) limit ne)

    below : (n : ℕ) → n < count → moved f count limit n < limit
    below n h = elim (cases_eq (f n) limit) [
      | inl e ↦
          let a : f count < suc limit = is.within count (omega arith) in
          let apart : f count ≢ limit = λ same. absurd (let x = is.apart n count (omega arith) (omega arith) (e ∙ sym same) in omega (arith, x, h)) in
          let m = here n e in
          subst (λ k. k < limit) (sym m) (smaller (f count) limit a apart)
      | inr ne ↦
          let a : f n < suc limit = is.within n (omega arith) in
          let m = there n ne in
          subst (λ k. k < limit) (sym m) (smaller (f n) limit a ne)
    ]

    no_two : (n m : ℕ) → n < count → m < count → moved f count limit n ≡ moved f count limit m → n ≡ m
    no_two n m h k e = elim (cases_eq (f n) limit) [
      | inl a ↦ elim (cases_eq (f m) limit) [
        | inl b ↦ is.apart n m (omega arith) (omega arith) (a ∙ sym b)
        | inr b ↦ absurd (let x = is.apart count m (omega arith) (omega arith) (sym (here n a) ∙ e ∙ there m b) in omega (arith, x, k))
      ]
      | inr a ↦ elim (cases_eq (f m) limit) [
        | inl b ↦ absurd (let x = is.apart n count (omega arith) (omega arith) (sym (there n a) ∙ e ∙ here m b) in omega (arith, x, h))
        | inr b ↦ is.apart n m (omega arith) (omega arith) (sym (there n a) ∙ e ∙ there m b)
      ]
    ]
