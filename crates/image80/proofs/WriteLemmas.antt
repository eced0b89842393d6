-- The text of regions spells them.
use Rattle.std.proofs.Common.{◌≡◌, ℕ, zero, suc, ◌+◌, ◌/◌, ◌%◌, ◌<◌, false, cond, List, [], ◌∷◌, ◌++◌, length, drop, get_or, map, append_assoc, append-nil, refl, ap, sym, subst, ◌∙◌, arith}
use Rattle.std.specs.Prelude.{All, IsPermutation, slice_index, filter_map, codes, Option, Some, None}
use Rattle.std.specs.List.{flat_map, cons_option}
use Rattle.std.proofs.lemmas.Bool.{lt-ltb}
use Rattle.std.proofs.lemmas.List.{drop_more, map-append}
use Rattle.std.proofs.lemmas.List.Concat.{flat_map-append}
use Rattle.std.proofs.lemmas.List.Elements.{All-nil, All-cons, All-head, All-tail, All-append, All-map, All-from_recursion, filter_map-append}
use Rattle.std.proofs.lemmas.List.Sorted.{IsPermutation-refl}
use Rattle.std.proofs.lemmas.List.Splits.{slice_split_at}
use Rattle.text80.specs.Digits.{word_text}
use Rattle.image80.specs.declared.range.Range.{Range}
use Rattle.image80.specs.declared.entry.Entry.{Entry}
use Rattle.image80.specs.declared.entry.Entry.TheVariants.{Code, Stack, Data, Case}
use Rattle.image80.specs.declared.version.Version.{Version}
use Rattle.image80.specs.declared.version.Version.TheVariants.{One, Two}
use Rattle.image80.specs.Case.{DeclaredCase, IsCase, has_target}
use Rattle.image80.specs.CaseLine.{IsCaseLine}
use Rattle.image80.specs.Lines.{is_line_feed, parts, text_of}
use Rattle.image80.specs.Range.{IsInMemory}
use Rattle.image80.specs.Regions.{Areas, AreRegions, all_ranges}
use Rattle.image80.specs.RegionsText.{heading, range_text, targets_text, case_text, entry_text, code_range, stack_range, data_range, case_of}
use Rattle.image80.specs.RegionsText.{filled, stack_ranges, case_lines, entries_of, version_for, text_in, regions_text, IsProper, Migrates, Spells}
use Rattle.image80.proofs.OnceLemmas.{All-front, All-back, lines_once}
use Rattle.image80.proofs.ReadingLemmas.{one_reading}

-- no line feed among the bytes
abbrev IsLine : List ℕ → Type 0
IsLine line = All (λ byte. is_line_feed byte ≡ false) line

digits_are_line : IsLine (codes "0123456789ABCDEF")
digits_are_line = All-from_recursion (λ byte. is_line_feed byte ≡ false) (codes "0123456789ABCDEF")
    (refl, (refl, (refl, (refl, (refl, (refl, (refl, (refl, (refl, (refl, (refl, (refl, (refl, (refl, (refl, (refl, tt))))))))))))))))

no_feed_at : (line : List ℕ) (i : ℕ) → IsLine line → is_line_feed (slice_index line i) ≡ false
no_feed_at [] i is_line = refl
no_feed_at (b ∷ bs) zero is_line = All-head (λ byte. is_line_feed byte ≡ false) b bs is_line
no_feed_at (b ∷ bs) (suc i) is_line = no_feed_at bs i (All-tail (λ byte. is_line_feed byte ≡ false) b bs is_line)

-- a digit is no line feed
digit_no_feed : (value : ℕ) → is_line_feed (slice_index (codes "0123456789ABCDEF") value) ≡ false
digit_no_feed value = no_feed_at (codes "0123456789ABCDEF") value digits_are_line

word_is_line : (word : ℕ) (rest : List ℕ) → IsLine rest → IsLine (word_text word ++ rest)
word_is_line word rest is_line =
    All-append (λ byte. is_line_feed byte ≡ false) (word_text word) rest
    (All-from_recursion (λ byte. is_line_feed byte ≡ false) (word_text word)
    (digit_no_feed (word / 256 / 16), (digit_no_feed (word / 256 % 16), (digit_no_feed (word % 256 / 16), (digit_no_feed (word % 256 % 16), tt))))) is_line

targets_are_line : (targets : List ℕ) → IsLine (targets_text targets)
targets_are_line [] = All-nil (λ byte. is_line_feed byte ≡ false)
targets_are_line (t ∷ ts) = All-cons (λ byte. is_line_feed byte ≡ false) 32 (word_text t ++ targets_text ts) refl (word_is_line t (targets_text ts) (targets_are_line ts))

range_is_line : (range : Range) → IsLine (range_text range)
range_is_line range = word_is_line range.first (32 ∷ word_text range.length)
    (All-cons (λ byte. is_line_feed byte ≡ false) 32 (word_text range.length) refl (word_is_line range.length [] (All-nil (λ byte. is_line_feed byte ≡ false))))

entry_is_line : (entry : Entry) → IsLine (entry_text entry)
entry_is_line (Code range) = All-append (λ byte. is_line_feed byte ≡ false) (codes "CODE ") (range_text range) (All-from_recursion (λ byte. is_line_feed byte ≡ false) (codes "CODE ") (refl, (refl, (refl, (refl, (refl, tt)))))) (range_is_line range)
entry_is_line (Stack range) = All-append (λ byte. is_line_feed byte ≡ false) (codes "STACK ") (range_text range) (All-from_recursion (λ byte. is_line_feed byte ≡ false) (codes "STACK ") (refl, (refl, (refl, (refl, (refl, (refl, tt))))))) (range_is_line range)
entry_is_line (Data range) = All-append (λ byte. is_line_feed byte ≡ false) (codes "DATA ") (range_text range) (All-from_recursion (λ byte. is_line_feed byte ≡ false) (codes "DATA ") (refl, (refl, (refl, (refl, (refl, tt)))))) (range_is_line range)
entry_is_line (Case case) = All-append (λ byte. is_line_feed byte ≡ false) (codes "CASE ") (case_text case) (All-from_recursion (λ byte. is_line_feed byte ≡ false) (codes "CASE ") (refl, (refl, (refl, (refl, (refl, tt)))))) (word_is_line case.at (targets_text case.targets) (targets_are_line case.targets))

heading_is_line : (version : Version) → IsLine (heading version)
heading_is_line One = All-from_recursion (λ byte. is_line_feed byte ≡ false) (heading One) (refl, (refl, (refl, (refl, (refl, (refl, (refl, (refl, (refl, tt)))))))))
heading_is_line Two = All-from_recursion (λ byte. is_line_feed byte ≡ false) (heading Two) (refl, (refl, (refl, (refl, (refl, (refl, (refl, (refl, (refl, tt)))))))))

-- lines without line feeds are the parts of their text
parts-text_of : (lines : List (List ℕ)) → All IsLine lines → parts (text_of lines) ≡ lines ++ [] ∷ []
parts-text_of [] all = refl
parts-text_of (l ∷ ls) all =
    ap parts (append_assoc l (10 ∷ []) (text_of ls))
    ∙ slice_split_at is_line_feed l 10 (text_of ls) (All-head IsLine l ls all) refl
    ∙ ap (λ rest. l ∷ rest) (parts-text_of ls (All-tail IsLine l ls all))

entries_are_lines : (entries : List Entry) → All IsLine (map entry_text entries)
entries_are_lines [] = All-nil IsLine
entries_are_lines (e ∷ es) = All-cons IsLine (entry_text e) (map entry_text es) (entry_is_line e) (entries_are_lines es)

-- regions without cases can be written in version 1, and all in version 2
abbrev pub CanHold : Version → List DeclaredCase → Type 0
CanHold version cases = All (λ case. version ≡ Two) cases

pub two_holds : (cases : List DeclaredCase) → CanHold Two cases
two_holds cases i d inside = refl

pub own_holds : (cases : List DeclaredCase) → CanHold (version_for cases) cases
own_holds [] i d inside = absurd (omega arith)
own_holds (c ∷ cs) i d inside = refl

case_line_of : (case : DeclaredCase) → IsCase case → IsCaseLine case
case_line_of case rules = record { word = rules.word; some = rules.some; words = rules.words }

-- the lines of regions are proper
lines_proper : (version : Version) (areas : Areas) → AreRegions areas → CanHold version areas.cases → All (IsProper version) (entries_of areas)
lines_proper version areas rules holds =
    let all : All IsInMemory (all_ranges areas) = rules.in_memory in
    All-append (IsProper version) (map Code areas.code) (Stack areas.stack ∷ (map Data areas.data_ranges ++ map Case areas.cases))
    (All-map (IsProper version) Code areas.code (All-front IsInMemory areas.code (areas.stack ∷ areas.data_ranges) all))
    (All-cons (IsProper version) (Stack areas.stack) (map Data areas.data_ranges ++ map Case areas.cases)
    (All-head IsInMemory areas.stack areas.data_ranges (All-back IsInMemory areas.code (areas.stack ∷ areas.data_ranges) all))
    (All-append (IsProper version) (map Data areas.data_ranges) (map Case areas.cases)
    (All-map (IsProper version) Data areas.data_ranges
    (All-tail IsInMemory areas.stack areas.data_ranges (All-back IsInMemory areas.code (areas.stack ∷ areas.data_ranges) all)))
    (All-map (IsProper version) Case areas.cases (λ i d inside. (holds i d inside, case_line_of (get_or areas.cases i d) (rules.each_case i d inside))))))

-- what the lines of one kind give
picks_all : {X : Type 0} (make : X → Entry) (pick : Entry → Option X) → ((x : X) → pick (make x) ≡ Some x) → (xs : List X) → filter_map pick (map make xs) ≡ xs
picks_all make pick gives [] = refl
picks_all make pick gives (r ∷ rs) = ap (λ o. cons_option o (filter_map pick (map make rs))) (gives r) ∙ ap (λ rest. r ∷ rest) (picks_all make pick gives rs)

picks_none : {X Y : Type 0} (make : X → Entry) (pick : Entry → Option Y) → ((x : X) → pick (make x) ≡ None) → (xs : List X) → filter_map pick (map make xs) ≡ []
picks_none make pick gives [] = refl
picks_none make pick gives (r ∷ rs) = ap (λ o. cons_option o (filter_map pick (map make rs))) (gives r) ∙ picks_none make pick gives rs

-- what all lines give, kind by kind
by_kind : {Y : Type 0} (pick : Entry → Option Y) (areas : Areas) (code stack data' cases : List Y) → filter_map pick (map Code areas.code) ≡ code →
    filter_map pick (Stack areas.stack ∷ []) ≡ stack → filter_map pick (map Data areas.data_ranges) ≡ data' → filter_map pick (map Case areas.cases) ≡ cases →
    filter_map pick (entries_of areas) ≡ code ++ (stack ++ (data' ++ cases))
by_kind pick areas code stack data' cases code_is stack_is data_is cases_is =
    filter_map-append pick (map Code areas.code) (Stack areas.stack ∷ (map Data areas.data_ranges ++ map Case areas.cases))
    ∙ ap (λ front. front ++ filter_map pick (Stack areas.stack ∷ (map Data areas.data_ranges ++ map Case areas.cases))) code_is
    ∙ ap (λ back. code ++ back)
    (filter_map-append pick (Stack areas.stack ∷ []) (map Data areas.data_ranges ++ map Case areas.cases)
    ∙ ap (λ front. front ++ filter_map pick (map Data areas.data_ranges ++ map Case areas.cases)) stack_is
    ∙ ap (λ back. stack ++ back)
    (filter_map-append pick (map Data areas.data_ranges) (map Case areas.cases)
    ∙ ap (λ front. front ++ filter_map pick (map Case areas.cases)) data_is ∙ ap (λ back. data' ++ back) cases_is))

-- of ranges that are not empty none is dropped
filled_all : (ranges : List Range) → All (λ range. 0 < range.length) ranges → filled ranges ≡ ranges
filled_all [] all = refl
filled_all (r ∷ rs) all =
    ap (λ b. cond b (r ∷ filled rs) (filled rs)) (lt-ltb 0 r.length (All-head (λ range. 0 < range.length) r rs all))
    ∙ ap (λ rest. r ∷ rest) (filled_all rs (All-tail (λ range. 0 < range.length) r rs all))

-- what the lines of regions give
code_of_entries : (areas : Areas) → filter_map code_range (entries_of areas) ≡ areas.code
code_of_entries areas =
    by_kind code_range areas areas.code [] [] [] (picks_all Code code_range (λ r. refl) areas.code) refl (picks_none Data code_range (λ r. refl) areas.data_ranges) (picks_none Case code_range (λ c. refl) areas.cases)
    ∙ append-nil areas.code

stack_of_entries : (areas : Areas) → stack_ranges (entries_of areas) ≡ areas.stack ∷ []
stack_of_entries areas =
    by_kind stack_range areas [] (areas.stack ∷ []) [] [] (picks_none Code stack_range (λ r. refl) areas.code) refl (picks_none Data stack_range (λ r. refl) areas.data_ranges) (picks_none Case stack_range (λ c. refl) areas.cases)

data_of_entries : (areas : Areas) → filter_map data_range (entries_of areas) ≡ areas.data_ranges
data_of_entries areas =
    by_kind data_range areas [] [] areas.data_ranges [] (picks_none Code data_range (λ r. refl) areas.code) refl (picks_all Data data_range (λ r. refl) areas.data_ranges) (picks_none Case data_range (λ c. refl) areas.cases)
    ∙ append-nil areas.data_ranges

cases_of_entries : (areas : Areas) → case_lines (entries_of areas) ≡ areas.cases
cases_of_entries areas =
    by_kind case_of areas [] [] [] areas.cases (picks_none Code case_of (λ r. refl) areas.code) refl (picks_none Data case_of (λ r. refl) areas.data_ranges) (picks_all Case case_of (λ c. refl) areas.cases)

-- the text that is written spells the regions
pub written_spells : (version : Version) (areas : Areas) → AreRegions areas → CanHold version areas.cases → Spells (text_in version areas) areas
written_spells version areas rules holds =
    record {
      version = version;
      entries = entries_of areas;
      good = record {
        lines = parts-text_of (heading version ∷ map entry_text (entries_of areas)) (All-cons IsLine (heading version) (map entry_text (entries_of areas)) (heading_is_line version) (entries_are_lines (entries_of areas)));
        proper = lines_proper version areas rules holds;
        once = lines_once areas rules;
      };
      code = subst (λ rs. IsPermutation rs areas.code) (sym (ap filled (code_of_entries areas) ∙ filled_all areas.code rules.code_filled)) (IsPermutation-refl areas.code);
      stack = stack_of_entries areas;
      data_ranges = subst (λ rs. IsPermutation rs areas.data_ranges) (sym (ap filled (data_of_entries areas) ∙ filled_all areas.data_ranges rules.data_filled)) (IsPermutation-refl areas.data_ranges);
      cases = λ address target. ap (λ cs. has_target cs address target) (sym (cases_of_entries areas));
      regions = rules;
    }

pub regions_text_spells : (areas : Areas) → AreRegions areas → Spells (regions_text areas) areas
regions_text_spells areas rules = written_spells (version_for areas.cases) areas rules (own_holds areas.cases)

pub second_text_spells : (areas : Areas) → AreRegions areas → Spells (text_in Two areas) areas
second_text_spells areas rules = written_spells Two areas rules (two_holds areas.cases)

-- what is migrated again
pub again : (bytes text other : List ℕ) → Migrates bytes [] text → Migrates text [] other → other ≡ text
again bytes text other first second =
    let same : second.areas ≡ first.areas = one_reading text second.areas first.areas second.old (subst (λ t. Spells t first.areas) (sym first.appended) first.same) in
    second.appended ∙ ap (λ areas. text_in Two areas) same ∙ sym first.appended

pub one_text : (bytes text other : List ℕ) → Migrates bytes [] text → Migrates bytes [] other → other ≡ text
one_text bytes text other first second =
    second.appended ∙ ap (λ areas. text_in Two areas) (one_reading bytes second.areas first.areas second.old first.old) ∙ sym first.appended

-- the lines of one kind
lines_of : {X : Type 0} (make : X → Entry) (line : X → List ℕ) → ((x : X) → entry_text (make x) ≡ line x) → (xs : List X) →
    flat_map (λ x. line x ++ 10 ∷ []) xs ≡ text_of (map entry_text (map make xs))
lines_of make line is [] = refl
lines_of make line is (r ∷ rs) = ap (λ l. (l ++ 10 ∷ []) ++ flat_map (λ x. line x ++ 10 ∷ []) rs) (sym (is r)) ∙ ap (λ rest. (entry_text (make r) ++ 10 ∷ []) ++ rest) (lines_of make line is rs)

text_of-append : (xs ys : List Entry) → text_of (map entry_text (xs ++ ys)) ≡ text_of (map entry_text xs) ++ text_of (map entry_text ys)
text_of-append xs ys = ap text_of (map-append entry_text xs ys) ∙ flat_map-append (λ line. line ++ 10 ∷ []) (map entry_text xs) (map entry_text ys)

-- the pieces that are written are the text of the regions
joined : (first code stack data' cases : List ℕ) → (((first ++ code) ++ stack) ++ data') ++ cases ≡ first ++ (code ++ (stack ++ (data' ++ cases)))
joined first code stack data' cases =
    append_assoc ((first ++ code) ++ stack) data' cases ∙ append_assoc (first ++ code) stack (data' ++ cases) ∙ append_assoc first code (stack ++ (data' ++ cases))

abbrev range_lines : List ℕ → List Range → List ℕ
range_lines keyword ranges = flat_map (λ range. (keyword ++ range_text range) ++ 10 ∷ []) ranges

abbrev case_text_lines : List DeclaredCase → List ℕ
case_text_lines cases = flat_map (λ case. (codes "CASE " ++ case_text case) ++ 10 ∷ []) cases

pub pieces_are_text : (version : Version) (areas : Areas) →
    ((((heading version ++ 10 ∷ []) ++ range_lines (codes "CODE ") areas.code) ++ ((codes "STACK " ++ range_text areas.stack) ++ 10 ∷ []))
    ++ range_lines (codes "DATA ") areas.data_ranges) ++ case_text_lines areas.cases
    ≡ text_in version areas
pieces_are_text version areas =
    joined (heading version ++ 10 ∷ []) (range_lines (codes "CODE ") areas.code) ((codes "STACK " ++ range_text areas.stack) ++ 10 ∷ []) (range_lines (codes "DATA ") areas.data_ranges) (case_text_lines areas.cases)
    ∙ ap (λ l. (heading version ++ 10 ∷ []) ++ l)
    (ap (λ l. l ++ (((codes "STACK " ++ range_text areas.stack) ++ 10 ∷ []) ++ (range_lines (codes "DATA ") areas.data_ranges ++ case_text_lines areas.cases))) (lines_of Code (λ range. codes "CODE " ++ range_text range) (λ r. refl) areas.code)
    ∙ ap (λ l. text_of (map entry_text (map Code areas.code)) ++ ((entry_text (Stack areas.stack) ++ 10 ∷ []) ++ l))
    (ap (λ l. l ++ case_text_lines areas.cases) (lines_of Data (λ range. codes "DATA " ++ range_text range) (λ r. refl) areas.data_ranges)
    ∙ ap (λ l. text_of (map entry_text (map Data areas.data_ranges)) ++ l) (lines_of Case (λ case. codes "CASE " ++ case_text case) (λ c. refl) areas.cases)
    ∙ sym (text_of-append (map Data areas.data_ranges) (map Case areas.cases)))
    ∙ sym (text_of-append (map Code areas.code) (Stack areas.stack ∷ (map Data areas.data_ranges ++ map Case areas.cases))))

-- the same, from what each step of the writer appends
pub steps_are_text : (version : Version) (areas : Areas) (front with_feed with_code with_stack with_data with_cases first_line code_word stack_word data_word : List ℕ) (code' : List Range) (stack' : Range) (data' : List Range) (cases' : List DeclaredCase) →
    front ≡ first_line → first_line ≡ heading version → with_feed ≡ front ++ 10 ∷ [] →
    with_code ≡ with_feed ++ range_lines code_word code' → code_word ≡ codes "CODE " → code' ≡ areas.code →
    with_stack ≡ with_code ++ ((stack_word ++ range_text stack') ++ 10 ∷ []) → stack_word ≡ codes "STACK " → stack' ≡ areas.stack →
    with_data ≡ with_stack ++ range_lines data_word data' → data_word ≡ codes "DATA " → data' ≡ areas.data_ranges →
    with_cases ≡ with_data ++ case_text_lines cases' → cases' ≡ areas.cases →
    with_cases ≡ text_in version areas
steps_are_text version areas front with_feed with_code with_stack with_data with_cases first_line code_word stack_word data_word code' stack' data' cases' front_is first_is feed_step code_step code_word_is code_is stack_step stack_word_is stack_is data_step data_word_is data_is cases_step cases_is =
    let feed : with_feed ≡ heading version ++ 10 ∷ [] = feed_step ∙ ap (λ l. l ++ 10 ∷ []) (front_is ∙ first_is) in
    let code : with_code ≡ (heading version ++ 10 ∷ []) ++ range_lines (codes "CODE ") areas.code =
    code_step ∙ ap (λ l. l ++ range_lines code_word code') feed ∙ ap (λ w. (heading version ++ 10 ∷ []) ++ range_lines w code') code_word_is ∙ ap (λ rs. (heading version ++ 10 ∷ []) ++ range_lines (codes "CODE ") rs) code_is in
    let stack : with_stack ≡ ((heading version ++ 10 ∷ []) ++ range_lines (codes "CODE ") areas.code) ++ ((codes "STACK " ++ range_text areas.stack) ++ 10 ∷ []) =
    stack_step ∙ ap (λ l. l ++ ((stack_word ++ range_text stack') ++ 10 ∷ [])) code
    ∙ ap (λ w. ((heading version ++ 10 ∷ []) ++ range_lines (codes "CODE ") areas.code) ++ ((w ++ range_text stack') ++ 10 ∷ [])) stack_word_is
    ∙ ap (λ (r : Range). ((heading version ++ 10 ∷ []) ++ range_lines (codes "CODE ") areas.code) ++ ((codes "STACK " ++ range_text r) ++ 10 ∷ [])) stack_is in
    cases_step ∙ ap (λ l. l ++ case_text_lines cases')
    (data_step ∙ ap (λ l. l ++ range_lines data_word data') stack
    ∙ ap (λ w. (((heading version ++ 10 ∷ []) ++ range_lines (codes "CODE ") areas.code) ++ ((codes "STACK " ++ range_text areas.stack) ++ 10 ∷ [])) ++ range_lines w data') data_word_is
    ∙ ap (λ rs. (((heading version ++ 10 ∷ []) ++ range_lines (codes "CODE ") areas.code) ++ ((codes "STACK " ++ range_text areas.stack) ++ 10 ∷ [])) ++ range_lines (codes "DATA ") rs) data_is)
    ∙ ap (λ cs. ((((heading version ++ 10 ∷ []) ++ range_lines (codes "CODE ") areas.code) ++ ((codes "STACK " ++ range_text areas.stack) ++ 10 ∷ [])) ++ range_lines (codes "DATA ") areas.data_ranges) ++ case_text_lines cs) cases_is
    ∙ pieces_are_text version areas

-- the lines so far and those that are left, with one more
pub one_line_more : {X : Type 0} (line : X → List ℕ) (ranges : List X) (i : ℕ) (d : X) (text : List ℕ) → i < length ranges →
    (text ++ line (get_or ranges i d)) ++ flat_map line (drop (i + 1) ranges) ≡ text ++ flat_map line (drop i ranges)
one_line_more line ranges i d text inside =
    append_assoc text (line (get_or ranges i d)) (flat_map line (drop (i + 1) ranges))
    ∙ ap (λ l. text ++ flat_map line l) (sym (drop_more ranges i d inside))
