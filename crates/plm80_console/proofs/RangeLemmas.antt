-- A text writes at most one range, and of texts that write ranges each one does.
use Rattle.std.specs.Prelude.{◌≡◌, ℕ, ◌<◌, ◌≤◌, ◌⊎◌, List, [], ◌∷◌, ◌++◌, Option, length, refl}
use Rattle.std.proofs.Common.{Bor, MatchOption, ap, arith, get_or, inl, inr, length-append, subst, sym, ◌∙◌, ◌-◌}
use Rattle.std.proofs.lemmas.Bool.{cases_lt}
use Rattle.std.proofs.lemmas.List.{get_or_append_left, get_or-append_right}
use Rattle.std.proofs.lemmas.Str.Pattern.{IsSplitOnceResult, split_after}
use Rattle.image80.specs.declared.range.Range.{Range}
use Rattle.plm80_console.specs.{NumberLaws.digits_without}
use Rattle.plm80_console.specs.Ranges.{AreRangesOf, IsRangeText, AreRangesOf.more, AreRangesOf.none}

-- `split_once` at a colon gives the digits before it and behind it
pub split_of : (text : List ℕ) (range : Range) (r : Option (Bor (List ℕ) × Bor (List ℕ))) → IsSplitOnceResult 58 text r
    → (is : IsRangeText text range) → MatchOption r ⊥ (λ x. (x.0.now ≡ is.before) × (x.1.now ≡ is.behind))
split_of text range r split is =
    split_after 58 text is.before is.behind r split (omega arith) is.text_is
    (digits_without 58 (omega arith) is.before is.is_first.0.1)

-- one text more
at_last : (texts : List (List ℕ)) (text : List ℕ) (range : Range) (i : ℕ) (d : List ℕ) → IsRangeText text range
    → (i < length texts → (r : Range) × IsRangeText (get_or texts i d) r) → i < length (texts ++ text ∷ [])
    → (i < length texts) ⊎ (length texts ≤ i) → (r : Range) × IsRangeText (get_or (texts ++ text ∷ []) i d) r
at_last texts text range i d is found below (inl inside) =
    let one = found inside in
    (one.0, subst (λ (t : List ℕ). IsRangeText t one.0) (sym (get_or_append_left texts (text ∷ []) d i inside)) one.1)
at_last texts text range i d is found below (inr behind) =
    let here : i - length texts ≡ 0 = omega (arith, below, behind, length-append texts (text ∷ [])) in (
      range,
      subst (λ (t : List ℕ). IsRangeText t range)
          (sym (get_or-append_right texts (text ∷ []) (length texts) i d refl behind ∙ ap (λ (n : ℕ). get_or (text ∷ []) n d) here)) is,
    )

-- of texts that write ranges each one does
pub written_each : (texts : List (List ℕ)) (ranges : List Range) → AreRangesOf texts ranges → (i : ℕ) (d : List ℕ) → i < length texts
    → (range : Range) × IsRangeText (get_or texts i d) range
written_each _ _ none i d below = absurd (omega (arith, below))
written_each _ _ (more texts text ranges range before is) i d below =
    at_last texts text range i d is (written_each texts ranges before i d) below (cases_lt i (length texts))
