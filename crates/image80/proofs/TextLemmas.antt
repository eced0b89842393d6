-- The lines of a regions text, one after another.
use Rattle.std.proofs.Common.{◌≡◌, ◌≢◌, ℕ, suc, ◌+◌, ◌<◌, ◌≤◌, Bool, true, false, cond, List, [], ◌∷◌, ◌++◌, length, take, drop, get_or, drop-cons, map, append_assoc, refl, ap, sym, subst, ◌∙◌, arith}
use Rattle.std.specs.Prelude.{All, IsPermutation, nat_lt, filter, Option, Some, None, Result, Ok, Err, IfErr, filter_map, slice_get}
use Rattle.std.specs.List.{onto_first, cons_option}
use Rattle.std.proofs.lemmas.List.Elements.{All-nil, All-push, All-head, All-tail, All-cons, filter_map-append}
use Rattle.std.proofs.lemmas.Bool.{ltb-true}
use Rattle.std.proofs.lemmas.List.{map-append, take_more, take-append-drop}
use Rattle.image80.specs.declared.range.Range.{Range}
use Rattle.image80.specs.declared.entry.Entry.{Entry}
use Rattle.image80.specs.declared.entry.Entry.TheVariants.{Code, Stack, Data, Case}
use Rattle.image80.specs.declared.fault.RegionsFault.{RegionsFault}
use Rattle.image80.specs.declared.fault.RegionsFault.TheVariants.{BadVersion}
use Rattle.image80.specs.declared.version.Version.{Version}
use Rattle.image80.specs.Case.{DeclaredCase, IsCase, AreByAddress}
use Rattle.image80.specs.Lines.{parts, is_line_feed}
use Rattle.image80.specs.Range.{IsInMemory}
use Rattle.image80.specs.Reading.{AreCasesOf}
use Rattle.image80.specs.RegionsText.{heading, entry_text, is_repeated, code_range, stack_range, data_range, filled, code_ranges, stack_ranges}
use Rattle.image80.specs.RegionsText.{data_ranges, case_lines, IsProper, GoodStart, GoodText, IsFirstBadLine, LacksStack, Overlaps, Refuses, Spells}
use Rattle.image80.specs.Regions.{Areas, AreRegions, AreDisjoint, Arranges}
use Rattle.image80.specs.RegionsText.IsFirstBadLine.{after}
use Rattle.image80.proofs.OnceLemmas.{once-push, one_stack_line}

-- regions with other cases
pub with_cases : (areas : Areas) (cases : List DeclaredCase) → AreRegions areas → AreByAddress cases → All IsCase cases → AreRegions (record areas { cases = cases })
with_cases areas cases rules by_address each = record {
  code_by_address = rules.code_by_address;
  data_by_address = rules.data_by_address;
  code_filled = rules.code_filled;
  data_filled = rules.data_filled;
  in_memory = rules.in_memory;
  disjoint = rules.disjoint;
  cases_by_address = by_address;
  each_case = each;
}

-- a split has a first part
pub record IsCons (xs : List (List ℕ)) : Type 0 where
  pub first : List ℕ
  pub others : List (List ℕ)
  pub is : xs ≡ first ∷ others

onto_first-cons : (x : ℕ) (xs : List (List ℕ)) → IsCons (onto_first x xs)
onto_first-cons x [] = record { first = x ∷ []; others = []; is = refl }
onto_first-cons x (y ∷ ys) = record { first = x ∷ y; others = ys; is = refl }

parts-cons : (text : List ℕ) → IsCons (parts text)
parts-cons [] = record { first = []; others = []; is = refl }
parts-cons (x ∷ xs) =
    elim (is_line_feed x) as (λ b. IsCons (cond b ([] ∷ parts xs) (onto_first x (parts xs))))
    [ true ↦ record { first = []; others = parts xs; is = refl } | false ↦ onto_first-cons x (parts xs) ]

-- one more good line
pub good_more : (version : Version) (text rest line after' : List ℕ) (entries : List Entry) (entry : Entry) → GoodStart version text entries (parts rest) → parts rest ≡ line ∷ parts after' →
    line ≡ entry_text entry → IsProper version entry → is_repeated entries entry ≡ false → GoodStart version text (entries ++ entry ∷ []) (parts after')
good_more version text rest line after' entries entry good is spelled proper new =
    record {
      lines = good.lines ∙ ap (λ others. heading version ∷ (map entry_text entries ++ others)) (is ∙ ap (λ l. l ∷ parts after') spelled)
          ∙ ap (λ ls. heading version ∷ ls) (sym (append_assoc (map entry_text entries) (entry_text entry ∷ []) (parts after')) ∙ ap (λ ls. ls ++ parts after') (sym (map-append entry_text entries (entry ∷ []))));
      proper = All-push (IsProper version) entries entry good.proper proper;
      once = once-push entries entry good.once new;
    }

-- something does
pub bad_end : (version : Version) (text rest : List ℕ) (entries : List Entry) (number : ℕ) → GoodStart version text entries (parts rest) → parts rest ≡ rest ∷ [] → rest ≢ [] →
    number ≡ length entries + 2 → IsFirstBadLine text number
bad_end version text rest entries number good alone some counted =
    after version entries rest [] (subst (λ others. GoodStart version text entries others) alone good) some counted

-- a bad line
pub bad_line : (version : Version) (text rest line after' : List ℕ) (entries : List Entry) (number : ℕ) → GoodStart version text entries (parts rest) → parts rest ≡ line ∷ parts after' →
    ((entry : Entry) → IsProper version entry → line ≡ entry_text entry → is_repeated entries entry ≡ true) → number ≡ length entries + 2 → IsFirstBadLine text number
bad_line version text rest line after' entries number good is repeated counted =
    let cut : IsCons (parts after') = parts-cons after' in
    after version entries line (cut.first ∷ cut.others)
    (subst (λ others. GoodStart version text entries others) (is ∙ ap (λ others. line ∷ others) cut.is) good) repeated counted

-- the first stack line
pub first_stack : (entries : List Entry) (i : ℕ) (d : Entry) (range : Range) → i < length entries → stack_ranges (take i entries) ≡ [] →
    Some range ≡ stack_range (get_or entries i d) → Some range ≡ slice_get (stack_ranges entries) 0
first_stack entries i d range below none some =
    sym (ap (λ es. slice_get (stack_ranges es) 0) (sym (take-append-drop i entries))
    ∙ ap (λ rs. slice_get rs 0) (filter_map-append stack_range (take i entries) (drop i entries) ∙ ap (λ rs. rs ++ stack_ranges (drop i entries)) none)
    ∙ ap (λ es. slice_get (stack_ranges es) 0) (drop-cons entries i d below)
    ∙ ap (λ o. slice_get (cons_option o (stack_ranges (drop (suc i) entries))) 0) (sym some))

-- no stack line so far
pub no_stack_more : (entries : List Entry) (i : ℕ) (d : Entry) → i < length entries → stack_ranges (take i entries) ≡ [] →
    None ≡ stack_range (get_or entries i d) → stack_ranges (take (i + 1) entries) ≡ []
no_stack_more entries i d below none no_range =
    ap stack_ranges (take_more entries i d below)
    ∙ filter_map-append stack_range (take i entries) (get_or entries i d ∷ [])
    ∙ ap (λ rs. rs ++ stack_ranges (get_or entries i d ∷ [])) none
    ∙ ap (λ o. cons_option o []) (sym no_range)

-- a filter keeps what holds of each element, and what passes the test
All-filter : {X : Type 0} (P : X → Type 0) (p : X → Bool) (xs : List X) → All P xs → All P (filter p xs)
All-filter P p [] all = all
All-filter P p (x ∷ xs) all =
    let rest : All P (filter p xs) = All-filter P p xs (All-tail P x xs all) in
    elim (p x) as (λ b. All P (cond b (x ∷ filter p xs) (filter p xs))) [ true ↦ All-cons P x (filter p xs) (All-head P x xs all) rest | false ↦ rest ]

-- the ranges that are kept are not empty
pub All-filled : (ranges : List Range) → All (λ range. 0 < range.length) (filled ranges)
All-filled [] = All-nil (λ range. 0 < range.length)
All-filled (r ∷ rs) =
    (elim (nat_lt 0 r.length) as (λ b. nat_lt 0 r.length ≡ b → All (λ range. 0 < range.length) (cond b (r ∷ filled rs) (filled rs)))
    [ true ↦ λ some. All-cons (λ range. 0 < range.length) r (filled rs) (ltb-true 0 r.length some) (All-filled rs) | false ↦ λ _. All-filled rs ]) refl

-- the ranges that entries give lie in memory where the entries are proper
All-given : (version : Version) (pick : Entry → Option Range) → ((entry : Entry) (range : Range) → pick entry ≡ Some range → IsProper version entry → IsInMemory range) →
    (entries : List Entry) → All (IsProper version) entries → All IsInMemory (filter_map pick entries)
All-given version pick gives [] all = All-nil IsInMemory
All-given version pick gives (e ∷ es) all =
    let rest : All IsInMemory (filter_map pick es) = All-given version pick gives es (All-tail (IsProper version) e es all) in
    (elim (pick e) as (λ o. pick e ≡ o → All IsInMemory (cons_option o (filter_map pick es))) [
      | None ↦ λ _. rest
      | Some range ↦ λ is. All-cons IsInMemory range (filter_map pick es) (gives e range is (All-head (IsProper version) e es all)) rest
    ]) refl

same_in_memory : (r s : Range) → ◌≡◌ {A = Option Range} (Some r) (Some s) → IsInMemory r → IsInMemory s
same_in_memory r s is inside = let same : r ≡ s = cc in subst IsInMemory same inside

code_gives : (version : Version) (entry : Entry) (range : Range) → code_range entry ≡ Some range → IsProper version entry → IsInMemory range
code_gives version (Code r) range is proper = same_in_memory r range is proper
code_gives version (Stack r) range is proper = cc
code_gives version (Data r) range is proper = cc
code_gives version (Case c) range is proper = cc

stack_gives : (version : Version) (entry : Entry) (range : Range) → stack_range entry ≡ Some range → IsProper version entry → IsInMemory range
stack_gives version (Code r) range is proper = cc
stack_gives version (Stack r) range is proper = same_in_memory r range is proper
stack_gives version (Data r) range is proper = cc
stack_gives version (Case c) range is proper = cc

data_gives : (version : Version) (entry : Entry) (range : Range) → data_range entry ≡ Some range → IsProper version entry → IsInMemory range
data_gives version (Code r) range is proper = cc
data_gives version (Stack r) range is proper = cc
data_gives version (Data r) range is proper = same_in_memory r range is proper
data_gives version (Case c) range is proper = cc

pub code_in_memory : (version : Version) (text : List ℕ) (entries : List Entry) → GoodText version text entries → All IsInMemory (code_ranges entries)
code_in_memory version text entries good = All-filter IsInMemory (λ range. nat_lt 0 range.length) (filter_map code_range entries) (All-given version code_range (code_gives version) entries good.proper)

pub data_in_memory : (version : Version) (text : List ℕ) (entries : List Entry) → GoodText version text entries → All IsInMemory (data_ranges entries)
data_in_memory version text entries good = All-filter IsInMemory (λ range. nat_lt 0 range.length) (filter_map data_range entries) (All-given version data_range (data_gives version) entries good.proper)

-- the first of at most one
only : {X : Type 0} (xs : List X) (x : X) → length xs ≤ 1 → slice_get xs 0 ≡ Some x → xs ≡ x ∷ []
only [] x few is = cc
only (y ∷ []) x few is = cc
only (y ∷ z ∷ zs) x few is = absurd (omega arith)

none_first : {X : Type 0} (xs : List X) → slice_get xs 0 ≡ None → xs ≡ []
none_first [] is = refl
none_first (x ∷ xs) is = cc

pub one_stack : (version : Version) (text : List ℕ) (entries : List Entry) (stack : Range) → GoodText version text entries → slice_get (stack_ranges entries) 0 ≡ Some stack → stack_ranges entries ≡ stack ∷ []
one_stack version text entries stack good is = only (stack_ranges entries) stack (one_stack_line entries good.once) is

pub stack_in_memory : (version : Version) (text : List ℕ) (entries : List Entry) (stack : Range) → GoodText version text entries → slice_get (stack_ranges entries) 0 ≡ Some stack → IsInMemory stack
stack_in_memory version text entries stack good is =
    All-head IsInMemory stack [] (subst (λ rs. All IsInMemory rs) (one_stack version text entries stack good is) (All-given version stack_range (stack_gives version) entries good.proper))

-- what a good text spells, or why it is refused
pub lacks_stack : (version : Version) (text : List ℕ) (entries : List Entry) → GoodText version text entries → slice_get (stack_ranges entries) 0 ≡ None → LacksStack text
lacks_stack version text entries good is = record { version = version; entries = entries; good = good; none = none_first (stack_ranges entries) is }

pub overlaps : (version : Version) (text : List ℕ) (entries : List Entry) (stack : Range) (code' data' : List Range) → GoodText version text entries → slice_get (stack_ranges entries) 0 ≡ Some stack →
    code' ≡ code_ranges entries → data' ≡ data_ranges entries → ¬ (AreDisjoint (code' ++ stack ∷ data')) → Overlaps text
overlaps version text entries stack code' data' good is code_is data_is shared =
    record {
      version = version;
      entries = entries;
      stack = stack;
      good = good;
      one = one_stack version text entries stack good is;
      overlap = subst (λ rs. ¬ (AreDisjoint (code_ranges entries ++ stack ∷ rs))) data_is (subst (λ rs. ¬ (AreDisjoint (rs ++ stack ∷ data'))) code_is shared);
    }

-- the regions of ranges with the cases of lines
pub spells : (version : Version) (text : List ℕ) (entries : List Entry) (stack : Range) (code' data' : List Range) (areas whole : Areas) (cases : List DeclaredCase) →
    GoodText version text entries → slice_get (stack_ranges entries) 0 ≡ Some stack →
    code' ≡ code_ranges entries → data' ≡ data_ranges entries → Arranges code' stack data' areas → AreCasesOf (case_lines entries) cases →
    whole ≡ record areas { cases = cases } → Spells text whole
spells version text entries stack code' data' areas whole cases good is code_is data_is made drawn whole_is =
    subst (λ w. Spells text w) (sym whole_is)
    (record {
      version = version;
      entries = entries;
      good = good;
      code = subst (λ rs. IsPermutation rs areas.code) code_is made.same_code;
      stack = one_stack version text entries stack good is ∙ ap (λ s. s ∷ []) (sym made.same_stack);
      data_ranges = subst (λ rs. IsPermutation rs areas.data_ranges) data_is made.same_data;
      cases = drawn.pairs;
      regions = with_cases areas cases made.rules drawn.by_address drawn.each;
    })

-- a text of a version is not refused for its version
pub known_version : {T : Type 0} (result : Result T RegionsFault) (text : List ℕ) (version : Version) (others : List (List ℕ)) → parts text ≡ heading version ∷ others →
    IfErr result (λ fault. Refuses text BadVersion → fault ≡ BadVersion)
known_version (Ok value) text version others is = tt
known_version (Err fault) text version others is = λ refused. absurd (refused version others is)
