-- The first line of a text.
use Rattle.std.proofs.Common.{◌≡◌, ℕ, suc, ◌+◌, ◌-◌, ◌<◌, ◌≤◌, Bool, true, false, cond, nat_lt, List, [], ◌∷◌, ◌++◌, length, get_or, take, drop, refl, ap, sym, ◌∙◌, arith, drop-cons, add-one}
use Rattle.std.specs.Prelude.{position, Some, None, not}
use Rattle.std.specs.List.{position_or_len, slice_split, onto_first}
use Rattle.std.proofs.lemmas.Bool.{ltb-true, ltb-false, eqb-true}
use Rattle.std.proofs.lemmas.List.{take_rest, take-append-drop}
use Rattle.std.proofs.lemmas.List.Quantifiers.{position-Some}
use Rattle.std.proofs.lemmas.List.Splits.{slice_split_first}
use Rattle.image80.specs.Lines.{is_line_feed, parts}

-- where no element passes, the list is the one part
split_alone : {X : Type 0} (p : X → Bool) (xs : List X) → length xs ≤ position_or_len p xs → slice_split p xs ≡ xs ∷ []
split_alone p [] h = refl
split_alone p (x ∷ xs) h =
    (elim (p x) as (λ b. length xs + 1 ≤ cond (not b) (1 + position_or_len p xs) 0 → cond b ([] ∷ slice_split p xs) (onto_first x (slice_split p xs)) ≡ (x ∷ xs) ∷ [])
    [ true ↦ λ more. absurd (omega arith) | false ↦ λ more. ap (onto_first x) (split_alone p xs (omega arith)) ])
    (rw (← (add-one (length xs))) at h)

-- what a place says of the test behind it
place_is : (b : Bool) (n i : ℕ) → cond b (Some n) None ≡ Some i → (b ≡ true) × (n ≡ i)
place_is true n i e = (refl, cc)
place_is false n i e = cc

no_place_is : (b : Bool) (n : ℕ) → cond b (Some n) None ≡ None → b ≡ false
no_place_is true n e = cc
no_place_is false n e = refl

-- with no line feed a text is its one part
pub parts_alone : (text : List ℕ) → position is_line_feed text ≡ None → parts text ≡ text ∷ []
parts_alone text none = split_alone is_line_feed text (ltb-false _ _ (no_place_is (nat_lt (position_or_len is_line_feed text) (length text)) (position_or_len is_line_feed text) none))

-- at the first line feed a text is its first line and the parts of the rest
pub parts_first : (text : List ℕ) (n : ℕ) → position is_line_feed text ≡ Some n →
    parts text ≡ take n text ∷ parts (take (length text - (n + 1)) (drop (n + 1) text))
parts_first text n found =
    let at = place_is (nat_lt (position_or_len is_line_feed text) (length text)) (position_or_len is_line_feed text) n found in
    slice_split_first is_line_feed text 0 (ltb-true _ _ at.0)
    ∙ ap (λ k. take k text ∷ parts (drop (k + 1) text)) at.1
    ∙ ap (λ rest. take n text ∷ parts rest) (sym (take_rest text (n + 1)))

-- the first line, the line feed and the rest are the text
pub joined_first : (text : List ℕ) (n : ℕ) → position is_line_feed text ≡ Some n →
    text ≡ take n text ++ 10 ∷ take (length text - (n + 1)) (drop (n + 1) text)
joined_first text n found =
    let at = position-Some is_line_feed text n 0 found in
    let feed : get_or text n 0 ≡ 10 = eqb-true (get_or text n 0) 10 at.1 in
    let inside : n < length text = at.0 in
    sym (take-append-drop n text)
    ∙ ap (λ rest. take n text ++ rest) (drop-cons text n 0 inside ∙ ap (λ b. b ∷ drop (suc n) text) feed)
    ∙ ap (λ rest. take n text ++ 10 ∷ rest) (ap (λ k. drop k text) (sym (add-one n)) ∙ sym (take_rest text (n + 1)))
