-- A text has one reading.
use Rattle.std.proofs.Common.{◌≡◌, ◌≢◌, ℕ, zero, suc, add-zero, ◌+◌, ◌<◌, true, false, cond, List, [], ◌∷◌, ◌++◌, length, get_or, drop, map, append-nil, refl, ap, sym, subst, ◌∙◌, arith, nat_eq}
use Rattle.std.specs.Prelude.{All, IsPermutation}
use Rattle.std.specs.List.{sum_by}
use Rattle.std.proofs.lemmas.Bool.{eq-eqb}
use Rattle.std.proofs.lemmas.Grind.{common_steps}
use Rattle.std.proofs.lemmas.List.Elements.{All-head, All-tail}
use Rattle.std.proofs.lemmas.List.Sums.{sum_by-cons}
use Rattle.std.proofs.lemmas.List.Sorted.{sum_by-IsPermutation}
use Rattle.image80.specs.declared.range.Range.{Range}
use Rattle.image80.specs.declared.entry.Entry.{Entry}
use Rattle.image80.specs.declared.entry.Entry.TheVariants.{Code, Stack, Data, Case}
use Rattle.image80.specs.declared.fault.RegionsFault.{RegionsFault}
use Rattle.image80.specs.declared.fault.RegionsFault.TheVariants.{BadLine, BadVersion, RegionsOverlap, NoStack, Memory}
use Rattle.image80.specs.declared.version.Version.{Version}
use Rattle.image80.specs.declared.version.Version.TheVariants.{One, Two}
use Rattle.image80.specs.Case.{DeclaredCase, has_target}
use Rattle.image80.specs.Regions.{Areas, AreRegions, AreDisjoint, IsByAddress}
use Rattle.image80.specs.RegionsText.{heading, entry_text, is_repeated, code_ranges, stack_ranges, data_ranges, case_lines, IsProper, GoodText, IsBadLine, IsFirstBadLine, Refuses, Spells}
use Rattle.image80.specs.RegionsText.IsFirstBadLine.{in_heading, after}
use Rattle.image80.proofs.DigitLemmas.{range_same}
use Rattle.image80.proofs.CaseTextLemmas.{case_line_same}
use Rattle.image80.proofs.OnceLemmas.{AreOnce, All-back, once-at}
use Rattle.image80.proofs.RegionsLemmas.{held_moved}
use Rattle.image80.proofs.SameCases.{same_cases}
use Rattle.image80.proofs.DisjointLemmas.{disjoint_along}

same_number : (a b : ℕ) → (a < b → ⊥) → (b < a → ⊥) → a ≡ b
same_number a b not_less not_more = omega arith

same_rest : (a b c : ℕ) → a + b ≡ a + c → b ≡ c
same_rest a b c same = omega arith

head_same : (r s : Range) → r ∷ [] ≡ s ∷ [] → r ≡ s
head_same r s same = cc

-- ranges by address lie above what the first lies above
above_all : (address : ℕ) (y : Range) (ys : List Range) → IsByAddress (y ∷ ys) → address < y.first → (k : ℕ) (d : Range) → k < length (y ∷ ys) → address < (get_or (y ∷ ys) k d).first
above_all address y ys rising below zero d inside = below
above_all address y ys rising below (suc k) d inside =
    let later : y.first < (get_or ys k d).first = rising 0 (suc k) d (omega arith) inside in omega arith

-- ranges with the same fields are one
range_is_same : (r s : Range) → r.first ≡ s.first → r.length ≡ s.length → r ≡ s
range_is_same r s first many =
    let make : ℕ → ℕ → Range = λ f l. record { first = f; length = l } in
    ap (λ f. make f r.length) first ∙ ap (λ l. make s.first l) many

-- proper entries with the same text are one
pub entry_same : (v w : Version) (e f : Entry) → IsProper v e → IsProper w f → entry_text e ≡ entry_text f → e ≡ f
entry_same v w (Code r) (Code s) r_in s_in same = let both = range_same r s r_in s_in (cc) in ap Code (range_is_same r s both.0 both.1)
entry_same v w (Stack r) (Stack s) r_in s_in same = let both = range_same r s r_in s_in (cc) in ap Stack (range_is_same r s both.0 both.1)
entry_same v w (Data r) (Data s) r_in s_in same = let both = range_same r s r_in s_in (cc) in ap Data (range_is_same r s both.0 both.1)
entry_same v w (Case c) (Case d) c_in d_in same = ap Case (case_line_same c d c_in.1 d_in.1 (ap (λ t. drop 5 t) same))
entry_same v w (Code r) (Stack s) r_in s_in same = let letter : ◌≡◌ {A = ℕ} 67 83 = ap (λ t. get_or t 0 0) same in absurd (omega arith)
entry_same v w (Code r) (Data s) r_in s_in same = let letter : ◌≡◌ {A = ℕ} 67 68 = ap (λ t. get_or t 0 0) same in absurd (omega arith)
entry_same v w (Code r) (Case c) r_in c_in same = let letter : ◌≡◌ {A = ℕ} 79 65 = ap (λ t. get_or t 1 0) same in absurd (omega arith)
entry_same v w (Stack r) (Code s) r_in s_in same = let letter : ◌≡◌ {A = ℕ} 83 67 = ap (λ t. get_or t 0 0) same in absurd (omega arith)
entry_same v w (Stack r) (Data s) r_in s_in same = let letter : ◌≡◌ {A = ℕ} 83 68 = ap (λ t. get_or t 0 0) same in absurd (omega arith)
entry_same v w (Stack r) (Case c) r_in c_in same = let letter : ◌≡◌ {A = ℕ} 83 67 = ap (λ t. get_or t 0 0) same in absurd (omega arith)
entry_same v w (Data r) (Code s) r_in s_in same = let letter : ◌≡◌ {A = ℕ} 68 67 = ap (λ t. get_or t 0 0) same in absurd (omega arith)
entry_same v w (Data r) (Stack s) r_in s_in same = let letter : ◌≡◌ {A = ℕ} 68 83 = ap (λ t. get_or t 0 0) same in absurd (omega arith)
entry_same v w (Data r) (Case c) r_in c_in same = let letter : ◌≡◌ {A = ℕ} 68 67 = ap (λ t. get_or t 0 0) same in absurd (omega arith)
entry_same v w (Case c) (Code s) c_in s_in same = let letter : ◌≡◌ {A = ℕ} 65 79 = ap (λ t. get_or t 1 0) same in absurd (omega arith)
entry_same v w (Case c) (Stack s) c_in s_in same = let letter : ◌≡◌ {A = ℕ} 67 83 = ap (λ t. get_or t 0 0) same in absurd (omega arith)
entry_same v w (Case c) (Data s) c_in s_in same = let letter : ◌≡◌ {A = ℕ} 67 68 = ap (λ t. get_or t 0 0) same in absurd (omega arith)

-- no entry has an empty line
entry_text_some : (e : Entry) → entry_text e ≢ []
entry_text_some (Code r) empty = cc
entry_text_some (Stack r) empty = cc
entry_text_some (Data r) empty = cc
entry_text_some (Case c) empty = cc

-- a text has one version
pub version_same : (v w : Version) (xs ys : List (List ℕ)) → heading v ∷ xs ≡ heading w ∷ ys → v ≡ w
version_same One One xs ys same = refl
version_same Two Two xs ys same = refl
version_same One Two xs ys same = let digit : ◌≡◌ {A = ℕ} 49 50 = ap (λ ls. get_or (get_or ls 0 []) 8 0) same in absurd (omega arith)
version_same Two One xs ys same = let digit : ◌≡◌ {A = ℕ} 50 49 = ap (λ ls. get_or (get_or ls 0 []) 8 0) same in absurd (omega arith)

-- the same lines after the first
pub tail_same : (v w : Version) (xs ys : List (List ℕ)) → heading v ∷ xs ≡ heading w ∷ ys → xs ≡ ys
tail_same v w xs ys same = ap (λ ls. drop 1 ls) same

-- only no entries leave the one empty part
none_left : (es : List Entry) → map entry_text es ++ [] ∷ [] ≡ [] ∷ [] → es ≡ []
none_left [] same = refl
none_left (e ∷ es) same = absurd (entry_text_some e (cc))

-- the entries of a text whose lines are good, and of a good start of it
pub record IsStart (es fs : List Entry) (others : List (List ℕ)) : Type 0 where
  pub rest : List Entry
  pub joined : es ≡ fs ++ rest
  pub left : map entry_text rest ++ [] ∷ [] ≡ others

pub starts : (v w : Version) (es fs : List Entry) (others : List (List ℕ)) → All (IsProper v) es → All (IsProper w) fs →
    map entry_text es ++ [] ∷ [] ≡ map entry_text fs ++ others → IsStart es fs others
starts v w es [] others es_in fs_in same = record { rest = es; joined = refl; left = same }
starts v w [] (f ∷ fs) others es_in fs_in same = absurd (entry_text_some f (cc))
starts v w (e ∷ es) (f ∷ fs) others es_in fs_in same =
    let here : e ≡ f = entry_same v w e f (All-head (IsProper v) e es es_in) (All-head (IsProper w) f fs fs_in) (cc) in
    let later : IsStart es fs others = starts v w es fs others (All-tail (IsProper v) e es es_in) (All-tail (IsProper w) f fs fs_in) (cc) in
    record { rest = later.rest; joined = ap (λ x. x ∷ es) here ∙ ap (λ xs. f ∷ xs) later.joined; left = later.left }

-- a text has one list of entries
pub same_entries : (text : List ℕ) (v w : Version) (es fs : List Entry) → GoodText v text es → GoodText w text fs → es ≡ fs
same_entries text v w es fs es_good fs_good =
    let start : IsStart es fs ([] ∷ []) = starts v w es fs ([] ∷ []) es_good.proper fs_good.proper (tail_same v w _ _ (sym es_good.lines ∙ fs_good.lines)) in
    start.joined ∙ ap (λ rest. fs ++ rest) (none_left start.rest start.left) ∙ append-nil fs

-- the weights of the ranges that begin at an address
abbrev weight : (Range → ℕ) → ℕ → List Range → ℕ
weight w address ranges = sum_by (λ r. cond (nat_eq r.first address) (w r) 0) ranges

weight-cons : (w : Range → ℕ) (address : ℕ) (x : Range) (xs : List Range) → weight w address (x ∷ xs) ≡ cond (nat_eq x.first address) (w x) 0 + weight w address xs
weight-cons w address x xs = sum_by-cons (λ r. cond (nat_eq r.first address) (w r) 0) x xs

other_first : (a b : ℕ) → a < b → nat_eq b a ≡ false
other_first a b below = grind (arith, common_steps)

weight_none : (w : Range → ℕ) (address : ℕ) (xs : List Range) → ((k : ℕ) (d : Range) → k < length xs → address < (get_or xs k d).first) → weight w address xs ≡ 0
weight_none w address [] above = refl
weight_none w address (x ∷ xs) above =
    let rest : weight w address xs ≡ 0 = weight_none w address xs (λ k d below. above (suc k) d (omega arith)) in
    let head : nat_eq x.first address ≡ false = other_first address x.first (above 0 x (omega arith)) in
    rw (weight-cons w address x xs, head, rest) refl

-- the weights at the first address of the first range
weight_first : (w : Range → ℕ) (x : Range) (xs : List Range) → IsByAddress (x ∷ xs) → weight w x.first (x ∷ xs) ≡ w x
weight_first w x xs rising =
    let rest : weight w x.first xs ≡ 0 = weight_none w x.first xs (λ k d below. rising 0 (suc k) d (omega arith) (omega arith)) in
    rw (weight-cons w x.first x xs, eq-eqb x.first x.first refl, rest) (add-zero (w x))

-- ranges by address with the same sums do not begin one below the other
not_below : (x : Range) (xs : List Range) (y : Range) (ys : List Range) → IsByAddress (x ∷ xs) → IsByAddress (y ∷ ys) →
    ((f : Range → ℕ) → sum_by f (x ∷ xs) ≡ sum_by f (y ∷ ys)) → x.first < y.first → ⊥
not_below x xs y ys xs_rising ys_rising same below =
    let one : weight (λ r. 1) x.first (x ∷ xs) ≡ 1 = weight_first (λ r. 1) x xs xs_rising in
    let none : weight (λ r. 1) x.first (y ∷ ys) ≡ 0 = weight_none (λ r. 1) x.first (y ∷ ys) (above_all x.first y ys ys_rising below) in
    let both : weight (λ r. 1) x.first (x ∷ xs) ≡ weight (λ r. 1) x.first (y ∷ ys) = same (λ r. cond (nat_eq r.first x.first) 1 0) in
    omega arith

-- ranges by address with the same sums are the same ranges
ascending_same : (xs ys : List Range) → IsByAddress xs → IsByAddress ys → ((f : Range → ℕ) → sum_by f xs ≡ sum_by f ys) → xs ≡ ys
ascending_same [] [] xs_rising ys_rising same = refl
ascending_same [] (y ∷ ys) xs_rising ys_rising same =
    let more : 0 ≡ 1 + sum_by (λ r. 1) ys = same (λ r. 1) ∙ sum_by-cons (λ r. 1) y ys in absurd (omega arith)
ascending_same (x ∷ xs) [] xs_rising ys_rising same =
    let more : 1 + sum_by (λ r. 1) xs ≡ 0 = sym (sum_by-cons (λ r. 1) x xs) ∙ same (λ r. 1) in absurd (omega arith)
ascending_same (x ∷ xs) (y ∷ ys) xs_rising ys_rising same =
    let first : x.first ≡ y.first =
    same_number x.first y.first (not_below x xs y ys xs_rising ys_rising same) (not_below y ys x xs ys_rising xs_rising (λ f. sym (same f))) in
    let many : x.length ≡ y.length =
    sym (weight_first (λ r. r.length) x xs xs_rising) ∙ same (λ r. cond (nat_eq r.first x.first) r.length 0)
    ∙ ap (λ a. weight (λ r. r.length) a (y ∷ ys)) first ∙ weight_first (λ r. r.length) y ys ys_rising in
    let head : x ≡ y = range_is_same x y first many in
    ap (λ r. r ∷ xs) head ∙ ap (λ rs. y ∷ rs)
    (ascending_same xs ys (λ i j d order below. xs_rising (suc i) (suc j) d (omega arith) (omega arith)) (λ i j d order below. ys_rising (suc i) (suc j) d (omega arith) (omega arith))
    (λ f. same_rest (f x) (sum_by f xs) (sum_by f ys) (sym (sum_by-cons f x xs) ∙ same f ∙ sum_by-cons f y ys ∙ ap (λ r. f r + sum_by f ys) (sym head))))

-- regions with the same ranges are the same
areas_same : (x y : Areas) → x.code ≡ y.code → x.stack ≡ y.stack → x.data_ranges ≡ y.data_ranges → x.cases ≡ y.cases → x ≡ y
areas_same x y code stack data' cases =
    let make : List Range → Range → List Range → List DeclaredCase → Areas = λ c s d k. record { code = c; stack = s; data_ranges = d; cases = k } in
    ap (λ c. make c x.stack x.data_ranges x.cases) code ∙ ap (λ s. make y.code s x.data_ranges x.cases) stack
    ∙ ap (λ d. make y.code y.stack d x.cases) data' ∙ ap (λ k. make y.code y.stack y.data_ranges k) cases

-- two permutations of one list, each by address
same_ranges : (ranges xs ys : List Range) → IsPermutation ranges xs → IsPermutation ranges ys → IsByAddress xs → IsByAddress ys → xs ≡ ys
same_ranges ranges xs ys xs_moved ys_moved xs_rising ys_rising =
    ascending_same xs ys xs_rising ys_rising (λ f. sum_by-IsPermutation f ranges xs xs_moved ∙ sym (sum_by-IsPermutation f ranges ys ys_moved))

-- a text spells one list of regions
pub one_reading : (text : List ℕ) (x y : Areas) → Spells text x → Spells text y → x ≡ y
one_reading text x y x_spelled y_spelled =
    let entries : x_spelled.entries ≡ y_spelled.entries = same_entries text x_spelled.version y_spelled.version x_spelled.entries y_spelled.entries x_spelled.good y_spelled.good in
    areas_same x y
    (same_ranges (code_ranges y_spelled.entries) x.code y.code (subst (λ es. IsPermutation (code_ranges es) x.code) entries x_spelled.code) y_spelled.code x_spelled.regions.code_by_address y_spelled.regions.code_by_address)
    (head_same x.stack y.stack (sym x_spelled.stack ∙ ap stack_ranges entries ∙ y_spelled.stack))
    (same_ranges (data_ranges y_spelled.entries) x.data_ranges y.data_ranges (subst (λ es. IsPermutation (data_ranges es) x.data_ranges) entries x_spelled.data_ranges) y_spelled.data_ranges x_spelled.regions.data_by_address y_spelled.regions.data_by_address)
    (same_cases x.cases y.cases x_spelled.regions.cases_by_address y_spelled.regions.cases_by_address x_spelled.regions.each_case y_spelled.regions.each_case
    (λ a t. x_spelled.cases a t ∙ ap (λ es. has_target (case_lines es) a t) entries ∙ sym (y_spelled.cases a t)))

not_nil : (es : List Entry) → map entry_text es ++ [] ∷ [] ≡ [] → ⊥
not_nil [] same = cc
not_nil (e ∷ es) same = cc

-- the line after good ones is good where the whole text is
not_bad : (v : Version) (es fs rest : List Entry) (line : List ℕ) (others : List (List ℕ)) → es ≡ fs ++ rest → map entry_text rest ++ [] ∷ [] ≡ line ∷ others →
    All (IsProper v) rest → AreOnce es → IsBadLine v fs line others → ⊥
not_bad v es fs [] line [] joined left rest_in once bad = bad (cc)
not_bad v es fs [] line (o ∷ os) joined left rest_in once bad = cc
not_bad v es fs (e ∷ rest) line [] joined left rest_in once bad = not_nil rest (ap (λ ls. drop 1 ls) left)
not_bad v es fs (e ∷ rest) line (o ∷ os) joined left rest_in once bad =
    let again : is_repeated fs e ≡ true = bad e (All-head (IsProper v) e rest rest_in) (cc) in
    let not_again : is_repeated fs e ≡ false = once-at fs e rest (subst AreOnce joined once) in
    let both : true ≡ false = sym again ∙ not_again in
    cc

pub no_bad_line : (text : List ℕ) (v : Version) (es : List Entry) (number : ℕ) → GoodText v text es → IsFirstBadLine text number → ⊥
no_bad_line text v es number good (in_heading w counted alone) = not_nil es (tail_same v w _ _ (sym good.lines ∙ alone))
no_bad_line text v es number good (after w fs line others start bad counted) =
    let begun : IsStart es fs (line ∷ others) = starts v w es fs (line ∷ others) good.proper start.proper (tail_same v w _ _ (sym good.lines ∙ start.lines)) in
    let same : w ≡ v = version_same w v _ _ (sym start.lines ∙ good.lines) in
    not_bad v es fs begun.rest line others begun.joined begun.left
    (All-back (IsProper v) fs begun.rest (subst (λ xs. All (IsProper v) xs) begun.joined good.proper)) good.once (subst (λ u. IsBadLine u fs line others) same bad)

-- the ranges of a text that spells regions share no address
lines_disjoint : (es : List Entry) (x : Areas) (stack : Range) → IsPermutation (code_ranges es) x.code → IsPermutation (data_ranges es) x.data_ranges → x.stack ≡ stack → AreRegions x →
    AreDisjoint (code_ranges es ++ stack ∷ data_ranges es)
lines_disjoint es x stack code data' same rules =
    subst (λ s. AreDisjoint (code_ranges es ++ s ∷ data_ranges es)) same
    (disjoint_along (x.code ++ x.stack ∷ x.data_ranges) (code_ranges es ++ x.stack ∷ data_ranges es)
    (λ address. sym (held_moved (code_ranges es) x.code x.stack (data_ranges es) x.data_ranges code data' address)) rules.disjoint)

-- a text that spells regions is not refused
pub not_refused : (text : List ℕ) (x : Areas) (fault : RegionsFault) → Spells text x → Refuses text fault → fault ≡ Memory
not_refused text x (BadLine number) spelled refused = absurd (no_bad_line text spelled.version spelled.entries number spelled.good refused)
not_refused text x BadVersion spelled refused = absurd (refused spelled.version (map entry_text spelled.entries ++ [] ∷ []) spelled.good.lines)
not_refused text x RegionsOverlap spelled refused =
    let entries : refused.entries ≡ spelled.entries = same_entries text refused.version spelled.version refused.entries spelled.entries refused.good spelled.good in
    absurd (refused.overlap (subst (λ es. AreDisjoint (code_ranges es ++ refused.stack ∷ data_ranges es)) (sym entries)
    (lines_disjoint spelled.entries x refused.stack spelled.code spelled.data_ranges
    (head_same x.stack refused.stack (sym spelled.stack ∙ ap stack_ranges (sym entries) ∙ refused.one)) spelled.regions)))
not_refused text x NoStack spelled refused =
    let entries : refused.entries ≡ spelled.entries = same_entries text refused.version spelled.version refused.entries spelled.entries refused.good spelled.good in
    let none : x.stack ∷ [] ≡ [] = sym spelled.stack ∙ ap stack_ranges (sym entries) ∙ refused.none in
    cc
not_refused text x Memory spelled refused = refl
