-- Regions with more cases.
use Rattle.std.proofs.Common.{◌≡◌, ◌≢◌, ℕ, suc, ◌+◌, ◌-◌, ◌<◌, ◌≤◌, ◌==◌, Bool, true, false, cond, eqb, List, [], ◌∷◌, ◌++◌, None, Some, length, get_or, map, take, refl, ap, sym, subst, ◌∙◌, arith}
use Rattle.std.specs.Prelude.{All, IsPermutation, codes, find}
use Rattle.std.specs.List.{IsDistinct}
use Rattle.std.specs.List.Sorted.{IsNonDecreasingBy}
use Rattle.std.specs.Option.{option_map}
use Rattle.std.proofs.lemmas.Bool.Decides.{nat_tests}
use Rattle.std.proofs.lemmas.List.{get_or-map, length-append, length-map, map-append}
use Rattle.std.proofs.lemmas.List.Concat.{flat_map-append}
use Rattle.std.proofs.lemmas.List.Elements.{All-append, All-cons, All-head, All-map, All-nil, All-tail, recursion_from_All}
use Rattle.std.proofs.lemmas.List.Sorted.{All-permutation, IsPermutation-map}
use Rattle.std.proofs.lemmas.Map.Keys.{IsDistinct-IsPermutation, IsDistinct-cons, IsDistinct-from_apart, apart_from_distinct}
use Rattle.std.proofs.Math.Seq.{take-append_seam}
use Rattle.image80.specs.declared.range.Range.{Range}
use Rattle.image80.specs.Case.{AreByAddress, DeclaredCase, IsCase}
use Rattle.image80.specs.Lines.{text_of}
use Rattle.image80.specs.Regions.{AreRegions, Areas, targets_at}
use Rattle.image80.specs.RegionsText.{Spells, case_text, cases_text, entries_of, entry_text}
use Rattle.verify80_cases.specs.Added.{AddsCases, second_text}

-- ---- the lines of cases

-- a list without its first element, and that element alone
but_first : {E : Type 0} → List E → List E
but_first [] = []
but_first (x ∷ xs) = xs

only_first : {E : Type 0} → List E → List E
only_first [] = []
only_first (x ∷ xs) = x ∷ []

abbrev areas_of : List Range → Range → List Range → List DeclaredCase → Areas
areas_of code stack ranges cases = record { code = code; stack = stack; data_ranges = ranges; cases = cases }

lines_of_cases : (stack : Range) (cases : List DeclaredCase) → text_of (map entry_text (but_first (entries_of (areas_of [] stack [] cases)))) ≡ cases_text cases
unfolding but_first
lines_of_cases stack [] = refl
lines_of_cases stack (k ∷ ks) = ap (λ rest. ((codes "CASE " ++ case_text k) ++ 10 ∷ []) ++ rest) (lines_of_cases stack ks)

-- they stand behind all others
entries_with : (code : List Range) (stack : Range) (ranges : List Range) (cases : List DeclaredCase) →
    entries_of (areas_of code stack ranges cases) ≡ entries_of (areas_of code stack ranges []) ++ but_first (entries_of (areas_of [] stack [] cases))
unfolding but_first only_first
entries_with [] stack [] cases = refl
entries_with [] stack (d ∷ ds) cases = ap (λ l. entries_of (areas_of [] stack (d ∷ []) []) ++ but_first l) (entries_with [] stack ds cases)
entries_with (c ∷ cs) stack ranges cases = ap (λ l. only_first (entries_of (areas_of (c ∷ []) stack [] [])) ++ l) (entries_with cs stack ranges cases)

text_more : {E : Type 0} (line : E → List ℕ) (first : List ℕ) (es fs : List E) → text_of (first ∷ map line (es ++ fs)) ≡ text_of (first ∷ map line es) ++ text_of (map line fs)
text_more line first es fs =
    ap (λ l. text_of (first ∷ l)) (map-append line es fs) ∙ flat_map-append (λ l. l ++ 10 ∷ []) (first ∷ map line es) (map line fs)

pub text_with : (areas : Areas) (cases : List DeclaredCase) → second_text (record areas { cases = [] }) ++ cases_text cases ≡ second_text (record areas { cases = cases })
text_with areas cases =
    ap (λ l. second_text (record areas { cases = [] }) ++ l) (sym (lines_of_cases areas.stack cases))
    ∙ sym (text_more entry_text (codes "REGIONS 2") (entries_of (record areas { cases = [] })) (but_first (entries_of (areas_of [] areas.stack [] cases))))
    ∙ ap (λ es. text_of (codes "REGIONS 2" ∷ map entry_text es)) (sym (entries_with areas.code areas.stack areas.data_ranges cases))

-- the text but for the lines of the cases
pub text_without : (areas : Areas) (text lines : List ℕ) → text ≡ second_text areas → lines ≡ cases_text areas.cases →
    (length lines ≤ length text) × (take (length text - length lines) text ≡ second_text (record areas { cases = [] }))
text_without areas text lines text_is lines_are =
    let bare = second_text (record areas { cases = [] }) in
    let whole : text ≡ bare ++ lines = text_is ∙ sym (text_with areas areas.cases) ∙ ap (λ l. bare ++ l) (sym lines_are) in
    let long : length text ≡ length bare + length lines = ap length whole ∙ length-append bare lines in
    let left : length text - length lines ≡ length bare = omega (arith, long) in
    (omega (arith, long), ap (λ n. take n text) left ∙ ap (take (length bare)) whole ∙ take-append_seam bare lines)

-- ---- cases by address

-- none of the cases has the address
abbrev AreOther : ℕ → List DeclaredCase → Type 0
AreOther address cases = All (λ case. case.at ≢ address) cases

abbrev at_of : DeclaredCase → ℕ
at_of case = case.at

differ : (a b : ℕ) → a ≢ b → eqb a b ≡ false
differ a b other = grind (arith, nat_tests)

flips : (a b : ℕ) → eqb a b ≡ eqb b a
flips a b = grind (arith, nat_tests)

by_address-tail : (case : DeclaredCase) (cases : List DeclaredCase) → AreByAddress (case ∷ cases) → AreByAddress cases
by_address-tail case cases rising i j d order inside = rising (suc i) (suc j) d (omega (arith, order)) (omega (arith, inside))

-- each address once
distinct : (cases : List DeclaredCase) → AreByAddress cases → IsDistinct eqb (map at_of cases)
distinct cases rising = IsDistinct-from_apart eqb (map at_of cases)
    (λ i j d order inside.
    let case : DeclaredCase = record { at = 0; targets = [] } in
    let below : j < length cases = omega (arith, inside, length-map cases at_of) in
    differ (get_or (map at_of cases) i d) (get_or (map at_of cases) j d)
    (λ same. omega (arith, same, rising i j case order below, get_or-map at_of cases i case d (omega (arith, order, below)), get_or-map at_of cases j case d below)))

distinct_with : (cases new : List DeclaredCase) → AreByAddress cases → AreByAddress new → All (λ case. AreOther case.at new) cases → IsDistinct eqb (map at_of (cases ++ new))
distinct_with [] new rising new_rising other = distinct new new_rising
distinct_with (k ∷ ks) new rising new_rising other =
    IsDistinct-cons eqb k.at (map at_of (ks ++ new))
    (recursion_from_All (λ at. eqb k.at at ≡ false) (map at_of (ks ++ new))
    (All-map (λ at. eqb k.at at ≡ false) at_of (ks ++ new)
    (All-append (λ b. eqb k.at b.at ≡ false) ks new
    (λ i d inside. differ k.at (get_or ks i d).at (λ same. omega (arith, same, rising 0 (suc i) d (omega arith) (omega (arith, inside)))))
    (λ i d inside. differ k.at (get_or new i d).at (λ same. All-head (λ case. AreOther case.at new) k ks other i d inside (sym same))))))
    (distinct_with ks new (by_address-tail k ks rising) new_rising (All-tail (λ case. AreOther case.at new) k ks other))

-- sorted cases are by address if each address comes once
rises : (cases joined : List DeclaredCase) → IsDistinct eqb (map at_of cases) → IsPermutation cases joined → IsNonDecreasingBy at_of joined → AreByAddress joined
rises cases joined once moved up i j d order inside =
    let apart : eqb (get_or (map at_of joined) i 0) (get_or (map at_of joined) j 0) ≡ false =
    apart_from_distinct eqb (map at_of joined) i j 0
    (IsDistinct-IsPermutation eqb flips (map at_of cases) (map at_of joined) (IsPermutation-map at_of cases joined moved) once) order
    (omega (arith, inside, length-map joined at_of)) in
    let unlike : eqb (get_or joined i d).at (get_or joined j d).at ≡ false =
    ap (λ a. eqb a (get_or joined j d).at) (sym (get_or-map at_of joined i d 0 (omega (arith, order, inside))))
    ∙ ap (eqb (get_or (map at_of joined) i 0)) (sym (get_or-map at_of joined j d 0 inside)) ∙ apart in
    let least : (get_or joined i d).at ≤ (get_or joined j d).at = up i j d (omega (arith, order)) inside in
    grind (arith, nat_tests)

-- references are sorted as what they refer to
pub non_decreasing_map : {X : Type 0} (f : X → DeclaredCase) (xs : List X) → IsNonDecreasingBy (λ x. (f x).at) xs → IsNonDecreasingBy at_of (map f xs)
non_decreasing_map f [] up i j d order inside = absurd (omega (arith, inside))
non_decreasing_map f (x ∷ xs) up i j d order inside =
    let below : j < length (x ∷ xs) = omega (arith, inside, length-map (x ∷ xs) f) in
    let least : (f (get_or (x ∷ xs) i x)).at ≤ (f (get_or (x ∷ xs) j x)).at = up i j x order below in
    subst (λ (k : DeclaredCase). k.at ≤ (get_or (map f (x ∷ xs)) j d).at) (sym (get_or-map f (x ∷ xs) i x d (omega (arith, order, below))))
    (subst (λ (k : DeclaredCase). (f (get_or (x ∷ xs) i x)).at ≤ k.at) (sym (get_or-map f (x ∷ xs) j x d below)) least)

-- no case has an address for which no targets are declared
none_declared : (cases : List DeclaredCase) (address : ℕ) → option_map (λ case. case.targets) (find (λ case. case.at == address) cases) ≡ None → AreOther address cases
none_declared [] address none = All-nil (λ case. case.at ≢ address)
none_declared (k ∷ ks) address none = step (k.at == address) refl none (none_declared ks address)
  where
    wrong : Some k.targets ≡ None → ⊥
    wrong same = cc

    step : (b : Bool) → (k.at == address) ≡ b → option_map (λ case. case.targets) (cond b (Some k) (find (λ case. case.at == address) ks)) ≡ None →
        (option_map (λ case. case.targets) (find (λ case. case.at == address) ks) ≡ None → AreOther address ks) → AreOther address (k ∷ ks)
    step true is some rest = absurd (wrong some)
    step false is none' rest = All-cons (λ case. case.at ≢ address) k ks (λ same. grind (arith, nat_tests)) (rest none')

-- ---- the regions with the cases

module _ (areas : Areas) (new joined : List DeclaredCase) (rules : AreRegions areas) (rising : AreByAddress new) (each : All IsCase new)
    (are_new : All (λ case. targets_at areas case.at ≡ None) new) (moved : IsPermutation (areas.cases ++ new) joined) (up : IsNonDecreasingBy at_of joined) where
  by_address : AreByAddress joined
  by_address = rises (areas.cases ++ new) joined
      (distinct_with areas.cases new rules.cases_by_address rising (λ i d inside j e below same.
      none_declared areas.cases (get_or new j e).at (are_new j e below) i d inside (sym same)))
      moved up

  are_regions : AreRegions (record areas { cases = joined })
  are_regions = record {
    code_by_address = rules.code_by_address;
    data_by_address = rules.data_by_address;
    code_filled = rules.code_filled;
    data_filled = rules.data_filled;
    in_memory = rules.in_memory;
    disjoint = rules.disjoint;
    cases_by_address = by_address;
    each_case = All-permutation IsCase (areas.cases ++ new) joined moved (All-append IsCase areas.cases new rules.each_case each);
  }

  pub adds_cases : (bare text : List ℕ) → ((areas : Areas) → AreRegions areas → Spells (second_text areas) areas) →
      bare ≡ second_text (record areas { cases = [] }) → text ≡ bare ++ cases_text joined → AddsCases areas new text
  adds_cases bare text spells bare_is text_is =
      let is : text ≡ second_text (record areas { cases = joined }) = text_is ∙ ap (λ l. l ++ cases_text joined) bare_is ∙ text_with areas joined in
      record {
        joined = joined;
        same = moved;
        by_address = by_address;
        text_is = is;
        spelled = subst (λ t. Spells t (record areas { cases = joined })) (sym is) (spells (record areas { cases = joined }) are_regions);
      }
