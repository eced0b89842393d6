-- Lines of which none repeats an earlier one.
use Rattle.std.proofs.Common.{◌≡◌, suc, ◌<◌, ◌≤◌, ◌||◌, Bool, true, false, eqb, List, [], ◌∷◌, ◌++◌, length, get_or, map, refl, ap, sym, ◌∙◌, arith}
use Rattle.std.specs.Prelude.{All, AllPairs}
use Rattle.std.specs.List.{AllByRecursion, IsDistinct}
use Rattle.std.proofs.lemmas.List.Elements.{All-head, All-tail, All-nil, All-cons, All-append, All-map}
use Rattle.std.proofs.lemmas.List.Folds.{list_any_at}
use Rattle.std.proofs.lemmas.List.Kept.{AllPairs-cons}
use Rattle.std.proofs.lemmas.List.Quantifiers.{all_pairs_push}
use Rattle.std.proofs.lemmas.Map.Keys.{IsDistinct-cons, IsDistinct-from_apart}
use Rattle.image80.specs.declared.range.Range.{Range}
use Rattle.image80.specs.declared.entry.Entry.{Entry}
use Rattle.image80.specs.declared.entry.Entry.TheVariants.{Code, Stack, Data, Case}
use Rattle.image80.specs.Case.{DeclaredCase, AreByAddress}
use Rattle.image80.specs.Regions.{Areas, AreRegions}
use Rattle.image80.specs.RegionsText.{repeats, is_repeated, stack_ranges, case_lines, entries_of}
use Rattle.image80.proofs.CaseLemmas.{by_address-tail, differ}

-- no line repeats an earlier one
abbrev pub AreOnce : List Entry → Type 0
AreOnce entries = AllPairs (λ a b. repeats a b ≡ false) entries

pub All-front : {X : Type 0} (P : X → Type 0) (xs ys : List X) → All P (xs ++ ys) → All P xs
All-front P [] ys all = All-nil P
All-front P (x ∷ xs) ys all = All-cons P x xs (All-head P x (xs ++ ys) all) (All-front P xs ys (All-tail P x (xs ++ ys) all))

pub All-back : {X : Type 0} (P : X → Type 0) (xs ys : List X) → All P (xs ++ ys) → All P ys
All-back P [] ys all = all
All-back P (x ∷ xs) ys all = All-back P xs ys (All-tail P x (xs ++ ys) all)

-- a test that cannot be true is false
never : (b : Bool) → (b ≡ true → ⊥) → b ≡ false
never true wrong = absurd (wrong refl)
never false wrong = refl

once-head : (e : Entry) (es : List Entry) → AreOnce (e ∷ es) → All (λ y. repeats e y ≡ false) es
once-head e es once k d inside = once 0 (suc k) d (omega arith) (omega arith)

once-tail : (e : Entry) (es : List Entry) → AreOnce (e ∷ es) → AreOnce es
once-tail e es once i j d order inside = once (suc i) (suc j) d (omega arith) (omega arith)

-- one more line
pub once-push : (es : List Entry) (e : Entry) → AreOnce es → is_repeated es e ≡ false → AreOnce (es ++ e ∷ [])
once-push es e once new = all_pairs_push (λ a b. repeats a b ≡ false) es e once
    (λ k d inside. never (repeats (get_or es k d) e) (λ found. let any : is_repeated es e ≡ true = list_any_at (λ x. repeats x e) es k d inside found in let both : true ≡ false = sym any ∙ new in cc))

-- a line among them repeats none before it
pub once-at : (fs : List Entry) (e : Entry) (rest : List Entry) → AreOnce (fs ++ e ∷ rest) → is_repeated fs e ≡ false
once-at [] e rest once = refl
once-at (f ∷ fs) e rest once =
    let head : All (λ y. repeats f y ≡ false) (fs ++ e ∷ rest) = once-head f (fs ++ e ∷ rest) once in
    let this : repeats f e ≡ false = All-head (λ y. repeats f y ≡ false) e rest (All-back (λ y. repeats f y ≡ false) fs (e ∷ rest) head) in
    let later : is_repeated fs e ≡ false = once-at fs e rest (once-tail f (fs ++ e ∷ rest) once) in
    ap (λ b. b || is_repeated fs e) this ∙ later

-- one stack line at most
no_stack : (r : Range) (es : List Entry) → All (λ y. repeats (Stack r) y ≡ false) es → stack_ranges es ≡ []
no_stack r [] all = refl
no_stack r (Code s ∷ es) all = no_stack r es (All-tail (λ y. repeats (Stack r) y ≡ false) (Code s) es all)
no_stack r (Data s ∷ es) all = no_stack r es (All-tail (λ y. repeats (Stack r) y ≡ false) (Data s) es all)
no_stack r (Case c ∷ es) all = no_stack r es (All-tail (λ y. repeats (Stack r) y ≡ false) (Case c) es all)
no_stack r (Stack s ∷ es) all = let both : true ≡ false = All-head (λ y. repeats (Stack r) y ≡ false) (Stack s) es all in cc

pub one_stack_line : (es : List Entry) → AreOnce es → length (stack_ranges es) ≤ 1
one_stack_line [] once = omega arith
one_stack_line (Code s ∷ es) once = one_stack_line es (once-tail (Code s) es once)
one_stack_line (Data s ∷ es) once = one_stack_line es (once-tail (Data s) es once)
one_stack_line (Case c ∷ es) once = one_stack_line es (once-tail (Case c) es once)
one_stack_line (Stack s ∷ es) once = let none : length (stack_ranges es) ≡ 0 = ap length (no_stack s es (once-head (Stack s) es once)) in omega arith

-- one case line of an address at most
others_differ : (c : DeclaredCase) (es : List Entry) → All (λ y. repeats (Case c) y ≡ false) es → AllByRecursion (λ at. eqb c.at at ≡ false) (map (λ case. case.at) (case_lines es))
others_differ c [] all = tt
others_differ c (Code s ∷ es) all = others_differ c es (All-tail (λ y. repeats (Case c) y ≡ false) (Code s) es all)
others_differ c (Data s ∷ es) all = others_differ c es (All-tail (λ y. repeats (Case c) y ≡ false) (Data s) es all)
others_differ c (Stack s ∷ es) all = others_differ c es (All-tail (λ y. repeats (Case c) y ≡ false) (Stack s) es all)
others_differ c (Case d ∷ es) all = (All-head (λ y. repeats (Case c) y ≡ false) (Case d) es all, others_differ c es (All-tail (λ y. repeats (Case c) y ≡ false) (Case d) es all))

pub cases_differ : (es : List Entry) → AreOnce es → IsDistinct eqb (map (λ case. case.at) (case_lines es))
cases_differ [] once = IsDistinct-from_apart eqb [] (λ i j d order inside. absurd (omega arith))
cases_differ (Code s ∷ es) once = cases_differ es (once-tail (Code s) es once)
cases_differ (Data s ∷ es) once = cases_differ es (once-tail (Data s) es once)
cases_differ (Stack s ∷ es) once = cases_differ es (once-tail (Stack s) es once)
cases_differ (Case c ∷ es) once =
    IsDistinct-cons eqb c.at (map (λ case. case.at) (case_lines es)) (others_differ c es (once-head (Case c) es once)) (cases_differ es (once-tail (Case c) es once))

-- lines of one kind that repeat nothing, before other lines
once-before : {X : Type 0} (make : X → Entry) → ((x : X) (y : Entry) → repeats (make x) y ≡ false) → (xs : List X) (rest : List Entry) → AreOnce rest → AreOnce (map make xs ++ rest)
once-before make plain [] rest once = once
once-before make plain (x ∷ xs) rest once =
    AllPairs-cons (λ a b. repeats a b ≡ false) (make x) (map make xs ++ rest) (λ k d inside. plain x _) (once-before make plain xs rest once)

once-cases : (cases : List DeclaredCase) → AreByAddress cases → AreOnce (map Case cases)
once-cases [] rising = λ i j d order inside. absurd (omega arith)
once-cases (c ∷ cs) rising =
    AllPairs-cons (λ a b. repeats a b ≡ false) (Case c) (map Case cs)
    (All-map (λ y. repeats (Case c) y ≡ false) Case cs (λ k d inside. let below : c.at < (get_or cs k d).at = rising 0 (suc k) d (omega arith) (omega arith) in differ c.at (get_or cs k d).at (λ same. omega arith)))
    (once-cases cs (by_address-tail c cs rising))

-- the lines of regions repeat nothing
pub lines_once : (areas : Areas) → AreRegions areas → AreOnce (entries_of areas)
lines_once areas rules =
    once-before Code (λ r y. refl) areas.code (Stack areas.stack ∷ (map Data areas.data_ranges ++ map Case areas.cases))
    (AllPairs-cons (λ a b. repeats a b ≡ false) (Stack areas.stack) (map Data areas.data_ranges ++ map Case areas.cases)
    (All-append (λ y. repeats (Stack areas.stack) y ≡ false) (map Data areas.data_ranges) (map Case areas.cases)
    (All-map (λ y. repeats (Stack areas.stack) y ≡ false) Data areas.data_ranges (λ k d inside. refl))
    (All-map (λ y. repeats (Stack areas.stack) y ≡ false) Case areas.cases (λ k d inside. refl)))
    (once-before Data (λ r y. refl) areas.data_ranges (map Case areas.cases) (once-cases areas.cases rules.cases_by_address)))
