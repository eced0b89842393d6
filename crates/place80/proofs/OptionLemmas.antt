-- What the first of several faults, or of several pairs, says.
use Rattle.std.proofs.Common.{◌≡◌, Bool, true, false, cond, List, [], ◌∷◌, refl, inl, inr}
use Rattle.std.specs.Prelude.{◌⊎◌, Option, None, Some, option_map, find, All}
use Rattle.std.specs.Option.{option_or}
use Rattle.std.proofs.lemmas.List.Elements.{All-nil, All-cons}
use Rattle.std.proofs.lemmas.Option.{none-some, same_Some}

pub none_of_both : {A : Type 0} (a b : Option A) → option_or a b ≡ None → (a ≡ None) × (b ≡ None)
none_of_both None b none = (refl, none)
none_of_both (Some x) b none = absurd cc

pub one_of_both : {A : Type 0} (a b : Option A) (x : A) → option_or a b ≡ Some x → (a ≡ Some x) ⊎ ((a ≡ None) × (b ≡ Some x))
one_of_both (Some y) b x e = inl e
one_of_both None b x e = inr (refl, e)

pub none_mapped : {A B : Type 0} (f : A → B) (o : Option A) → option_map f o ≡ None → o ≡ None
none_mapped f None none = refl
none_mapped f (Some x) none = absurd cc

pub one_mapped : {A B : Type 0} (f : A → B) (o : Option A) (y : B) → option_map f o ≡ Some y → (x : A) × (o ≡ Some x) × (f x ≡ y)
one_mapped f None y e = absurd (none-some y e)
one_mapped f (Some x) y e = (x, refl, same_Some (f x) y e)

pub find_none : {A : Type 0} (test : A → Bool) (x : A) (xs : List A) → find test (x ∷ xs) ≡ None
    → (test x ≡ false) × (find test xs ≡ None)
find_none test x xs none =
    (elim (test x) as (λ b. cond b (Some x) (find test xs) ≡ None → (b ≡ false) × (find test xs ≡ None)) [
      | true ↦ λ wrong. absurd cc
      | false ↦ λ rest. (refl, rest)
    ]) none

-- if nothing is found, each fails the test
pub fails_all : {A : Type 0} (test : A → Bool) (xs : List A) → find test xs ≡ None → All (λ x. test x ≡ false) xs
fails_all test [] none = All-nil (λ x. test x ≡ false)
fails_all test (x ∷ xs) none = let parts = find_none test x xs none in
    All-cons (λ x. test x ≡ false) x xs parts.0 (fails_all test xs parts.1)
