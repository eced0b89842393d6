-- The first item of a word.
use Rattle.std.proofs.Common.{◌≡◌, ℕ, ◌+◌, ◌-◌, ◌≤◌, Bool, true, false, cond, nat_lt, List, [], ◌∷◌, length, take, drop, refl, ap, sym, ◌∙◌, arith, add-one}
use Rattle.std.specs.Prelude.{◌==◌, position, Some, None, not}
use Rattle.std.specs.List.{position_or_len, slice_split, onto_first}
use Rattle.std.proofs.lemmas.Bool.{ltb-true, ltb-false}
use Rattle.std.proofs.lemmas.List.{take_rest}
use Rattle.std.proofs.lemmas.List.Splits.{slice_split_first}

abbrev pub is_comma : ℕ → Bool
is_comma character = character == 44

-- where no element passes, the list is the one part
split_alone : {X : Type 0} (p : X → Bool) (xs : List X) → length xs ≤ position_or_len p xs → slice_split p xs ≡ xs ∷ []
split_alone p [] h = refl
split_alone p (x ∷ xs) h =
    (elim (p x) as (λ b. length xs + 1 ≤ cond (not b) (1 + position_or_len p xs) 0 → cond b ([] ∷ slice_split p xs) (onto_first x (slice_split p xs)) ≡ (x ∷ xs) ∷ [])
    [ true ↦ λ more. absurd (omega arith) | false ↦ λ more. ap (onto_first x) (split_alone p xs (omega arith)) ])
    (rw (← (add-one (length xs))) at h)

-- what a place says of the test behind it
place_is : (b : Bool) (n i : ℕ) → cond b (Some n) None ≡ Some i → (b ≡ true) × (n ≡ i)
place_is true n i e = (refl, cc)
place_is false n i e = cc

no_place_is : (b : Bool) (n : ℕ) → cond b (Some n) None ≡ None → b ≡ false
no_place_is true n e = cc
no_place_is false n e = refl

-- without a comma the one item is all
pub items_alone : (text : List ℕ) → position is_comma text ≡ None → slice_split is_comma text ≡ text ∷ []
items_alone text none = split_alone is_comma text (ltb-false _ _ (no_place_is (nat_lt (position_or_len is_comma text) (length text)) (position_or_len is_comma text) none))

-- at the first comma
pub items_first : (text : List ℕ) (n : ℕ) → position is_comma text ≡ Some n →
    slice_split is_comma text ≡ take n text ∷ slice_split is_comma (take (length text - (n + 1)) (drop (n + 1) text))
items_first text n found =
    let at = place_is (nat_lt (position_or_len is_comma text) (length text)) (position_or_len is_comma text) n found in
    slice_split_first is_comma text 0 (ltb-true _ _ at.0)
    ∙ ap (λ k. take k text ∷ slice_split is_comma (drop (k + 1) text)) at.1
    ∙ ap (λ rest. take n text ∷ slice_split is_comma rest) (sym (take_rest text (n + 1)))
