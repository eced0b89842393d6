-- Lists that grow at their end or change at one place.
use Rattle.std.specs.Prelude.{◌≡◌, ◌≢◌, ◌⊎◌, ◌<◌, ◌+◌, ℕ, zero, suc, List, [], ◌∷◌, ◌++◌, length, sum_by, Some, None, slice_get, slice_set, refl}
use Rattle.std.proofs.Common.{ap, ◌∙◌, arith, inl, inr}
use Rattle.std.proofs.lemmas.List.Sums.{sum_by-cons}

-- an element of a list that grew is the new one at its end, or one from before
pub record IsLast {A : Type 0} (xs : List A) (y : A) (i : ℕ) (x : A) : Type 0 where
  pub place : i ≡ length xs
  pub is : x ≡ y

pub grown : {A : Type 0} (xs : List A) (y : A) (i : ℕ) (x : A) → slice_get (xs ++ y ∷ []) i ≡ Some x → (slice_get xs i ≡ Some x) ⊎ IsLast xs y i x
grown [] y zero x is = inr (record { place = refl; is = cc })
grown [] y (suc i) x is = absurd (let e : None ≡ Some x = is in cc)
grown (z ∷ xs) y zero x is = inl is
grown (z ∷ xs) y (suc i) x is = by (grown xs y i x is)
  where
    by : (slice_get xs i ≡ Some x) ⊎ IsLast xs y i x → (slice_get (z ∷ xs) (suc i) ≡ Some x) ⊎ IsLast (z ∷ xs) y (suc i) x
    by (inl before) = inl before
    by (inr last) = inr (record { place = ap suc last.place; is = last.is })

pub length_grown : {A : Type 0} (xs : List A) (y : A) → length (xs ++ y ∷ []) ≡ length xs + 1
length_grown [] y = refl
length_grown (z ∷ xs) y = ap suc (length_grown xs y) ∙ omega arith

-- an element of a list that changed at one place is the new one, or one from before at another place
pub record IsOther {A : Type 0} (xs : List A) (at i : ℕ) (x : A) : Type 0 where
  pub before : slice_get xs i ≡ Some x
  pub place : i ≢ at

pub changed_at : {A : Type 0} (xs : List A) (at : ℕ) (y : A) (i : ℕ) (x : A) → slice_get (slice_set xs at y) i ≡ Some x → ((i ≡ at) × (x ≡ y)) ⊎ IsOther xs at i x
changed_at [] at y i x is = absurd (let e : None ≡ Some x = is in cc)
changed_at (z ∷ xs) zero y zero x is = inl (refl, cc)
changed_at (z ∷ xs) zero y (suc i) x is = inr (record { before = is; place = λ e. absurd (omega (arith, e)) })
changed_at (z ∷ xs) (suc at) y zero x is = inr (record { before = is; place = λ e. absurd (omega (arith, e)) })
changed_at (z ∷ xs) (suc at) y (suc i) x is = by (changed_at xs at y i x is)
  where
    by : ((i ≡ at) × (x ≡ y)) ⊎ IsOther xs at i x → ((suc i ≡ suc at) × (x ≡ y)) ⊎ IsOther (z ∷ xs) (suc at) (suc i) x
    by (inl here) = inl (ap suc here.0, here.1)
    by (inr other) = inr (record { before = other.before; place = λ e. other.place (omega (arith, e)) })

pub length_changed : {A : Type 0} (xs : List A) (at : ℕ) (y : A) → length (slice_set xs at y) ≡ length xs
length_changed [] at y = refl
length_changed (z ∷ xs) zero y = refl
length_changed (z ∷ xs) (suc at) y = ap suc (length_changed xs at y)

pub within : {A : Type 0} (xs : List A) (i : ℕ) (x : A) → slice_get xs i ≡ Some x → i < length xs
within [] i x is = absurd (let e : None ≡ Some x = is in cc)
within (z ∷ xs) zero x is = omega arith
within (z ∷ xs) (suc i) x is = let h : i < length xs = within xs i x is in omega arith

-- sums and counts of a list that changed at one place
pub sum_changed : {A : Type 0} (f : A → ℕ) (xs : List A) (at : ℕ) (x y : A) → slice_get xs at ≡ Some x → sum_by f (slice_set xs at y) + f x ≡ sum_by f xs + f y
sum_changed f [] at x y is = absurd (let e : None ≡ Some x = is in cc)
sum_changed f (z ∷ xs) zero x y is =
    let e : z ≡ x = cc in
    let g : f z ≡ f x = ap f e in
    let one : sum_by f (z ∷ xs) ≡ f z + sum_by f xs = sum_by-cons f z xs in
    let other : sum_by f (y ∷ xs) ≡ f y + sum_by f xs = sum_by-cons f y xs in
    rw (one, other) (omega arith)
sum_changed f (z ∷ xs) (suc at) x y is =
    let h : sum_by f (slice_set xs at y) + f x ≡ sum_by f xs + f y = sum_changed f xs at x y is in
    let one : sum_by f (z ∷ xs) ≡ f z + sum_by f xs = sum_by-cons f z xs in
    let other : sum_by f (z ∷ slice_set xs at y) ≡ f z + sum_by f (slice_set xs at y) = sum_by-cons f z (slice_set xs at y) in
    rw (one, other) (omega arith)
