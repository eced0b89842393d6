-- The case that a text writes.
use Rattle.std.specs.Prelude.{◌≡◌, ◌≢◌, ◌⊎◌, ℕ, ◌+◌, ◌-◌, ◌<◌, ◌≤◌, Bool, true, false, List, [], ◌∷◌, ◌++◌, All, AllPairs, Contains, IsPermutation, MatchOption}
use Rattle.std.specs.Prelude.{Option, None, Some, length, map, eqb, refl}
use Rattle.std.specs.List.{IsDistinct, dedup}
use Rattle.std.specs.List.Sorted.{IsSorted}
use Rattle.std.specs.Ordering.{nat_cmp}
use Rattle.std.specs.Result.{is_ok}
use Rattle.std.proofs.Common.{Bor, ap, append_assoc, arith, get_or, inl, inr, length-append, subst, sym, ◌∙◌}
use Rattle.std.proofs.lemmas.Bool.{cases_lt, eqb-false}
use Rattle.std.proofs.lemmas.Bool.Decides.{eqb_tells}
use Rattle.std.proofs.lemmas.Grind.{same_number_lists}
use Rattle.std.proofs.lemmas.List.{get_or-append_right, get_or-map, get_or_append_left, length-map}
use Rattle.std.proofs.lemmas.List.Elements.{All-contains, All-contains_itself, All-nil, All-push}
use Rattle.std.proofs.lemmas.List.Filters.{All-dedup}
use Rattle.std.proofs.lemmas.List.Kept.{AllPairs-from_increasing, Contains-dedup_nat, Contains-from_dedup}
use Rattle.std.proofs.lemmas.List.Sorted.{All-permutation, Contains-permutation, IsPermutation-map, IsPermutation-sym}
use Rattle.std.proofs.lemmas.Map.Keys.{IsDistinct-IsPermutation, IsDistinct-from_apart, IsStrictlyIncreasing-dedup, apart_from_distinct}
use Rattle.std.proofs.lemmas.Str.Pattern.{IsSplitOnceResult, split_after, split_parts}
use Rattle.image80.specs.{Case.AreByAddress, Case.DeclaredCase, Case.IsCase, Image.Located}
use Rattle.plm80_boards.specs.RangeLaws.{same_digits}
use Rattle.plm80_console.specs.{NumberLaws.digits_without, NumberText.IsWordText, NumberText.word_value}
use Rattle.verify80_cases.specs.Suggested.{holds_pchl}
use Rattle.verify80_suggest.specs.Known.{FitsCase, fetch_in}
use Rattle.plm80_regions.specs.CaseTexts.{AreCaseTexts, AreCasesWritten, AreTargetTexts, IsCaseText}
use Rattle.plm80_regions.specs.CaseTexts.AreCaseTexts.{none as no_cases, more as more_cases}
use Rattle.plm80_regions.specs.CaseTexts.AreTargetTexts.{last, more}

-- there is a target
some_target : (text targets : List ℕ) → AreTargetTexts text targets → (w : ℕ) × Contains targets w
some_target _ _ (last text is) = (word_value text, (0, omega arith, refl))
some_target _ _ (more first behind targets is rest) = (word_value first, (0, omega arith, refl))

module _ (text first behind written sorted : List ℕ) (at : ℕ) (text_is : text ≡ first ++ 61 ∷ behind) (is_word : IsWordText first) (at_is : at ≡ word_value first)
    (below : at < 65536) (are : AreTargetTexts behind written) (words : All (λ target. target < 65536) written)
    (moved : IsPermutation written sorted) (up : IsSorted nat_cmp sorted) where
  there : (w : ℕ) → Contains written w → Contains (dedup eqb sorted) w
  there w inside = Contains-dedup_nat sorted w (Contains-permutation written sorted w moved inside)

  rules : IsCase (record { at = at; targets = dedup eqb sorted })
  rules =
      let one = some_target behind written are in
      let found : Contains (dedup eqb sorted) one.0 = there one.0 one.1 in
      record {
        word = below;
        some = omega (arith, found.1);
        words = All-dedup eqb (λ target. target < 65536) sorted (All-permutation (λ target. target < 65536) written sorted moved words);
        ascending = AllPairs-from_increasing (dedup eqb sorted) (IsStrictlyIncreasing-dedup sorted up);
      }

  pub case_text_is : (distinct : List ℕ) → distinct ≡ dedup eqb sorted → IsCaseText text (record { at = at; targets = distinct })
  case_text_is distinct is = subst (λ ts. IsCaseText text (record { at = at; targets = ts })) (sym is)
      (record {
        first = first;
        behind = behind;
        text_is = text_is;
        is_word = is_word;
        at = at_is;
        rules = rules;
        written = written;
        are_written = are;
        targets = λ w. (λ inside. Contains-permutation sorted written w (IsPermutation-sym written sorted moved) (Contains-from_dedup eqb sorted w inside), there w);
      })

-- the targets before those of the text that is left
module _ (text first behind rest targets : List ℕ) (target : ℕ) (rest_is : rest ≡ first ++ 44 ∷ behind) (is_word : IsWordText first) (is : target ≡ word_value first)
    (left : (others : List ℕ) → AreTargetTexts rest others → AreTargetTexts text (targets ++ others)) where
  pub left_more : (others : List ℕ) → AreTargetTexts behind others → AreTargetTexts text ((targets ++ target ∷ []) ++ others)
  left_more others are =
      subst (AreTargetTexts text) (sym (append_assoc targets (target ∷ []) others))
      (left (target ∷ others)
      (subst (λ t. AreTargetTexts t (target ∷ others)) (sym rest_is)
      (subst (λ w. AreTargetTexts (first ++ 44 ∷ behind) (w ∷ others)) (sym is) (more first behind others is_word are))))

pub left_last : (text rest targets : List ℕ) (target : ℕ) → IsWordText rest → target ≡ word_value rest
    → ((others : List ℕ) → AreTargetTexts rest others → AreTargetTexts text (targets ++ others)) → AreTargetTexts text (targets ++ target ∷ [])
left_last text rest targets target is_word is left =
    left (target ∷ []) (subst (λ w. AreTargetTexts rest (w ∷ [])) (sym is) (last rest is_word))

-- cases that are written keep the rules of a case
pub each_written : (texts : List (List ℕ)) (cases : List DeclaredCase) → AreCaseTexts texts cases → All IsCase cases
each_written _ _ no_cases = All-nil IsCase
each_written _ _ (more_cases texts text cases case so_far one) = All-push IsCase cases case (each_written texts cases so_far) one.rules

pub sorted_cases : (texts : List (List ℕ)) (written cases : List DeclaredCase) → AreCaseTexts texts written → IsPermutation written cases → AreByAddress cases
    → AreCasesWritten texts cases
sorted_cases texts written cases are moved by_address = record {
  written = written;
  are_written = are;
  same = moved;
  by_address = by_address;
  each = All-permutation IsCase written cases moved (each_written texts written are);
}

-- ---- a text that writes no case

-- a word has no comma
no_comma : (text first behind : List ℕ) → IsWordText text → text ≡ first ++ 44 ∷ behind → ⊥
no_comma text first behind is cut =
    let long : length first < length text = subst (λ (l : List ℕ). length first < length l) (sym cut) (omega (arith, length-append first (44 ∷ behind))) in
    let here : length first - length first ≡ 0 = omega arith in
    digits_without 44 (omega arith) text is.0.1 (length first) long
    (ap (λ (l : List ℕ). get_or l (length first) 0) cut
    ∙ get_or-append_right first (44 ∷ behind) (length first) (length first) 0 refl (omega arith)
    ∙ ap (λ (n : ℕ). get_or (44 ∷ behind) n 0) here)

-- a comma cuts a text of targets behind the first of them; without one it is a word
pub parts_of : (rest others : List ℕ) (r : Option (Bor (List ℕ) × Bor (List ℕ))) → IsSplitOnceResult 44 rest r → AreTargetTexts rest others
    → MatchOption r (IsWordText rest) (λ x. IsWordText x.0.now × ((behind : List ℕ) × AreTargetTexts x.1.now behind))
parts_of _ _ None split (last text is) = is
parts_of _ _ (Some x) split (last text is) =
    absurd (no_comma text x.0.now x.1.now is (split_parts 44 text (Some x) split (omega arith)).0)
parts_of _ _ r split (more first behind targets is rest) =
    of_cut r (split_after 44 (first ++ 44 ∷ behind) first behind r split (omega arith) refl (digits_without 44 (omega arith) first is.0.1))
  where
    of_cut : (o : Option (Bor (List ℕ) × Bor (List ℕ))) → MatchOption o ⊥ (λ x. (x.0.now ≡ first) × (x.1.now ≡ behind))
        → MatchOption o (IsWordText (first ++ 44 ∷ behind)) (λ x. IsWordText x.0.now × ((l : List ℕ) × AreTargetTexts x.1.now l))
    of_cut None cut = absurd cut
    of_cut (Some x) cut = (subst IsWordText (sym cut.0) is, (targets, subst (λ (t : List ℕ). AreTargetTexts t targets) (sym cut.1) rest))

-- an equals sign cuts the text of a case
pub case_parts : (text : List ℕ) (case : DeclaredCase) (r : Option (Bor (List ℕ) × Bor (List ℕ))) → IsSplitOnceResult 61 text r
    → (is : IsCaseText text case) → MatchOption r ⊥ (λ x. (x.0.now ≡ is.first) × (x.1.now ≡ is.behind))
case_parts text case r split is =
    split_after 61 text is.first is.behind r split (omega arith) is.text_is (digits_without 61 (omega arith) is.first is.is_word.0.1)

-- ---- texts write each their case

-- one text more
at_last : (texts : List (List ℕ)) (text : List ℕ) (cases : List DeclaredCase) (case : DeclaredCase) (i : ℕ) (d : DeclaredCase) → IsCaseText text case
    → length cases ≡ length texts → (i < length cases → IsCaseText (get_or texts i []) (get_or cases i d)) → i < length (cases ++ case ∷ [])
    → (i < length cases) ⊎ (length cases ≤ i) → IsCaseText (get_or (texts ++ text ∷ []) i []) (get_or (cases ++ case ∷ []) i d)
at_last texts text cases case i d is same found below (inl inside) =
    subst (λ (t : List ℕ). IsCaseText t (get_or (cases ++ case ∷ []) i d)) (sym (get_or_append_left texts (text ∷ []) [] i (omega (arith, inside, same))))
    (subst (λ (k : DeclaredCase). IsCaseText (get_or texts i []) k) (sym (get_or_append_left cases (case ∷ []) d i inside)) (found inside))
at_last texts text cases case i d is same found below (inr behind) =
    let last : i - length texts ≡ 0 = omega (arith, below, behind, same, length-append cases (case ∷ [])) in
    let other : i - length cases ≡ 0 = omega (arith, last, same) in
    subst (λ (t : List ℕ). IsCaseText t (get_or (cases ++ case ∷ []) i d))
    (sym (get_or-append_right texts (text ∷ []) (length texts) i [] refl (omega (arith, behind, same)) ∙ ap (λ (n : ℕ). get_or (text ∷ []) n []) last))
    (subst (λ (k : DeclaredCase). IsCaseText text k)
    (sym (get_or-append_right cases (case ∷ []) (length cases) i d refl behind ∙ ap (λ (n : ℕ). get_or (case ∷ []) n d) other)) is)

pub each_text : (texts : List (List ℕ)) (cases : List DeclaredCase) → AreCaseTexts texts cases
    → (length cases ≡ length texts) × ((i : ℕ) (d : DeclaredCase) → i < length cases → IsCaseText (get_or texts i []) (get_or cases i d))
each_text _ _ no_cases = (refl, λ i d below. absurd (omega (arith, below)))
each_text _ _ (more_cases texts text cases case so_far one) =
    let before = each_text texts cases so_far in (
      length-append cases (case ∷ []) ∙ ap (λ (n : ℕ). n + 1) before.0 ∙ sym (length-append texts (text ∷ [])),
      λ i d below. at_last texts text cases case i d one before.0 (before.1 i d) below (cases_lt i (length cases)),
    )

-- of texts that write cases each one does
pub text_at : (texts : List (List ℕ)) (cases : List DeclaredCase) → AreCaseTexts texts cases → (i : ℕ) → i < length texts
    → (case : DeclaredCase) × IsCaseText (get_or texts i []) case
text_at texts cases are i below =
    let d : DeclaredCase = record { at = 0; targets = [] } in
    let each = each_text texts cases are in
    (get_or cases i d, each.1 i d (omega (arith, below, each.0)))

-- ---- a text writes one case

one_list : (text text' : List ℕ) (a b : List ℕ) → AreTargetTexts text a → AreTargetTexts text' b → text ≡ text' → a ≡ b
one_list _ _ _ _ (last text is) (last text' is') same = λ k. word_value (same k) ∷ []
one_list _ _ _ _ (last text is) (more first behind targets is' rest) same =
    absurd (no_comma text first behind is same)
one_list _ _ _ _ (more first behind targets is rest) (last text is') same =
    absurd (no_comma text first behind is' (sym same))
one_list _ _ _ _ (more first behind targets is rest) (more first' behind' targets' is' rest') same =
    let cut = same_digits 44 (omega arith) first first' behind behind' is.0.1 is'.0.1 same in
    let others = one_list behind behind' targets targets' rest rest' cut.1 in
    λ k. word_value (cut.0 k) ∷ others k

one_case : (text : List ℕ) (a b : DeclaredCase) → IsCaseText text a → IsCaseText text b
    → (a.at ≡ b.at) × ((target : ℕ) → Contains a.targets target → Contains b.targets target)
one_case text a b is are =
    let cut = same_digits 61 (omega arith) is.first are.first is.behind are.behind is.is_word.0.1 are.is_word.0.1 (sym is.text_is ∙ are.text_is) in (
      is.at ∙ ap word_value cut.0 ∙ sym are.at,
      λ target inside. (are.targets target).1
          (subst (λ (l : List ℕ). Contains l target) (one_list is.behind are.behind is.written are.written is.are_written are.are_written cut.1)
          ((is.targets target).0 inside)),
    )

-- texts write one list of addresses
same_addresses : (texts : List (List ℕ)) (a b : List DeclaredCase) → AreCaseTexts texts a → AreCaseTexts texts b
    → map (λ (k : DeclaredCase). k.at) a ≡ map (λ (k : DeclaredCase). k.at) b
same_addresses texts a b are is =
    let d : DeclaredCase = record { at = 0; targets = [] } in
    let one = each_text texts a are in
    let other = each_text texts b is in
    let at_of : DeclaredCase → ℕ = λ k. k.at in
    same_number_lists (map at_of a) (map at_of b) (length-map a at_of ∙ one.0 ∙ sym other.0 ∙ sym (length-map b at_of))
    (λ i below.
    let inside : i < length a = omega (arith, below, length-map a at_of) in
    let inside' : i < length b = omega (arith, inside, one.0, other.0) in
    get_or-map at_of a i d 0 inside
    ∙ (one_case (get_or texts i []) (get_or a i d) (get_or b i d) (one.1 i d inside) (other.1 i d inside')).0
    ∙ sym (get_or-map at_of b i d 0 inside'))

-- ---- two cases of one address

differ : (a b : ℕ) → a < b → eqb a b ≡ false
differ a b less = by_test (eqb_tells a b)
  where
    by_test : ((eqb a b ≡ true) × (a ≡ b)) ⊎ ((eqb a b ≡ false) × (a ≢ b)) → eqb a b ≡ false
    by_test (inl is) = absurd (omega (arith, is.1, less))
    by_test (inr other) = other.0

flips : (a b : ℕ) → eqb a b ≡ eqb b a
flips a b = by_tests (eqb_tells a b) (eqb_tells b a)
  where
    by_tests : ((eqb a b ≡ true) × (a ≡ b)) ⊎ ((eqb a b ≡ false) × (a ≢ b)) → ((eqb b a ≡ true) × (b ≡ a)) ⊎ ((eqb b a ≡ false) × (b ≢ a))
        → eqb a b ≡ eqb b a
    by_tests (inl is) (inl also) = is.0 ∙ sym also.0
    by_tests (inl is) (inr other) = absurd (other.1 (sym is.1))
    by_tests (inr other) (inl is) = absurd (other.1 (sym is.1))
    by_tests (inr other) (inr also) = other.0 ∙ sym also.0

-- cases of which no list by address can be made
pub shared_address : (texts : List (List ℕ)) (written sorted cases : List DeclaredCase) → AreCaseTexts texts written → IsPermutation written sorted
    → (AllPairs (λ (one other : DeclaredCase). one.at ≢ other.at) sorted → ⊥) → AreCasesWritten texts cases → ⊥
shared_address texts written sorted cases are moved twice is =
    let d : DeclaredCase = record { at = 0; targets = [] } in
    let at_of : DeclaredCase → ℕ = λ k. k.at in
    let own : IsDistinct eqb (map at_of cases) = IsDistinct-from_apart eqb (map at_of cases)
    (λ i j e before below.
    let inside : j < length cases = omega (arith, below, length-map cases at_of) in
    differ (get_or (map at_of cases) i e) (get_or (map at_of cases) j e)
    (omega (arith, is.by_address i j d before inside, get_or-map at_of cases i d e (omega (arith, before, inside)), get_or-map at_of cases j d e inside))) in
    let there : IsPermutation (map at_of cases) (map at_of is.written) =
    IsPermutation-map at_of cases is.written (IsPermutation-sym is.written cases is.same) in
    let here : IsPermutation (map at_of written) (map at_of sorted) = IsPermutation-map at_of written sorted moved in
    let apart = IsDistinct-IsPermutation eqb flips (map at_of written) (map at_of sorted) here
    (subst (IsDistinct eqb) (same_addresses texts is.written written is.are_written are)
    (IsDistinct-IsPermutation eqb flips (map at_of cases) (map at_of is.written) there own)) in
    twice (λ i j e before below same.
    eqb-false (get_or (map at_of sorted) i 0) (get_or (map at_of sorted) j 0)
    (apart_from_distinct eqb (map at_of sorted) i j 0 apart before (omega (arith, below, length-map sorted at_of)))
    (get_or-map at_of sorted i e 0 (omega (arith, before, below)) ∙ same ∙ sym (get_or-map at_of sorted j e 0 below)))

-- ---- cases that fit

fits_as : (code : ℕ → Bool) (image : Located) (a b : DeclaredCase) → (a.at ≡ b.at) × ((target : ℕ) → Contains a.targets target → Contains b.targets target)
    → FitsCase code image b → FitsCase code image a
fits_as code image a b same fits = record {
  pchl = subst (λ (at : ℕ). holds_pchl (fetch_in code image at) ≡ true) (sym same.0) fits.pchl;
  targets = λ k e below.
      All-contains (λ at. is_ok (fetch_in code image at) ≡ true) b.targets (get_or a.targets k e) fits.targets
      (same.1 (get_or a.targets k e) (All-contains_itself a.targets k e below));
}

-- texts of which all cases fit, whichever list of them is taken
pub each_fits : (code : ℕ → Bool) (image : Located) (texts : List (List ℕ)) (cases others : List DeclaredCase) → AreCasesWritten texts cases
    → AreCasesWritten texts others → All (FitsCase code image) others → All (FitsCase code image) cases
each_fits code image texts cases others is are fits =
    let fitting = All-permutation (FitsCase code image) others are.written (IsPermutation-sym are.written others are.same) fits in
    let one = each_text texts is.written is.are_written in
    let other = each_text texts are.written are.are_written in
    All-permutation (FitsCase code image) is.written cases is.same
    (λ i d below.
    let inside : i < length are.written = omega (arith, below, one.0, other.0) in
    fits_as code image (get_or is.written i d) (get_or are.written i d)
    (one_case (get_or texts i []) (get_or is.written i d) (get_or are.written i d) (one.1 i d below) (other.1 i d inside)) (fitting i d inside))
