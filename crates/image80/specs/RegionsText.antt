-- The text of regions, versions 1 and 2. It is over whole lines: the first is `REGIONS 1` or
-- `REGIONS 2`, and each further one is `CODE ffff llll`, `DATA ffff llll` or `STACK ffff llll`, the
-- first address and the length of a range in upper case hexadecimal, in any order. Version 2 has
-- lines `CASE aaaa tttt ..` too, the address of a PCHL and its targets, at least one.
-- (The text is this project's own; its words are names of the segments of ISIS-II's LOCATE, and of
-- PL/M's DO CASE.)
use Rattle.std.specs.Prelude.{◌≡◌, ℕ, ◌+◌, ◌==◌, Bool, true, false, nat_lt, List, [], ◌∷◌, ◌++◌, length, map, filter, filter_map, All, AllPairs, IsPermutation, codes, Option, Some, None}
use Rattle.std.specs.List.{flat_map, list_any}
use Rattle.text80.specs.Digits.{word_text}
use Rattle.image80.specs.declared.range.Range.{Range}
use Rattle.image80.specs.declared.entry.Entry.{Entry}
use Rattle.image80.specs.declared.entry.Entry.TheVariants.{Code, Stack, Data, Case}
use Rattle.image80.specs.declared.fault.RegionsFault.{RegionsFault}
use Rattle.image80.specs.declared.fault.RegionsFault.TheVariants.{BadLine, BadVersion, RegionsOverlap, NoStack, Memory}
use Rattle.image80.specs.declared.version.Version.{Version}
use Rattle.image80.specs.declared.version.Version.TheVariants.{One, Two}
use Rattle.image80.specs.Case.{DeclaredCase, has_target}
use Rattle.image80.specs.CaseLine.{IsCaseLine}
use Rattle.image80.specs.Lines.{parts, text_of}
use Rattle.image80.specs.Range.{IsInMemory}
use Rattle.image80.specs.Regions.{Areas, AreRegions, AreDisjoint}

-- the first line
abbrev pub heading : Version → List ℕ
heading One = codes "REGIONS 1"
heading Two = codes "REGIONS 2"

-- a range's first address and length
abbrev pub range_text : Range → List ℕ
range_text range = word_text range.first ++ 32 ∷ word_text range.length

-- targets, each after a space
abbrev pub targets_text : List ℕ → List ℕ
targets_text targets = flat_map (λ target. 32 ∷ word_text target) targets

-- a case's address and its targets
abbrev pub case_text : DeclaredCase → List ℕ
case_text case = word_text case.at ++ targets_text case.targets

-- a line after the first
abbrev pub entry_text : Entry → List ℕ
entry_text (Code range) = codes "CODE " ++ range_text range
entry_text (Stack range) = codes "STACK " ++ range_text range
entry_text (Data range) = codes "DATA " ++ range_text range
entry_text (Case case) = codes "CASE " ++ case_text case

-- the lines of cases
abbrev pub cases_text : List DeclaredCase → List ℕ
cases_text cases = flat_map (λ case. (codes "CASE " ++ case_text case) ++ 10 ∷ []) cases

-- the rule of a line: a range lies in memory; a case stands in version 2 alone
abbrev pub IsProper : Version → Entry → Type 0
IsProper version (Code range) = IsInMemory range
IsProper version (Stack range) = IsInMemory range
IsProper version (Data range) = IsInMemory range
IsProper version (Case case) = (version ≡ Two) × IsCaseLine case

abbrev pub code_range : Entry → Option Range
code_range (Code range) = Some range
code_range _ = None

abbrev pub stack_range : Entry → Option Range
stack_range (Stack range) = Some range
stack_range _ = None

abbrev pub data_range : Entry → Option Range
data_range (Data range) = Some range
data_range _ = None

abbrev pub case_of : Entry → Option DeclaredCase
case_of (Case case) = Some case
case_of _ = None

-- whether one line repeats another: both give a stack, or a case of one address
abbrev pub repeats : Entry → Entry → Bool
repeats (Stack range) (Stack other) = true
repeats (Case case) (Case other) = case.at == other.at
repeats _ _ = false

-- whether a line repeats one of the lines
abbrev pub is_repeated : List Entry → Entry → Bool
is_repeated entries entry = list_any (λ earlier. repeats earlier entry) entries

-- the ranges that are not empty
abbrev pub filled : List Range → List Range
filled ranges = filter (λ range. nat_lt 0 range.length) ranges

-- the ranges of code and of data that lines give, without the empty ones, all stack ranges, and all cases
abbrev pub code_ranges : List Entry → List Range
code_ranges entries = filled (filter_map code_range entries)

abbrev pub stack_ranges : List Entry → List Range
stack_ranges entries = filter_map stack_range entries

abbrev pub data_ranges : List Entry → List Range
data_ranges entries = filled (filter_map data_range entries)

abbrev pub case_lines : List Entry → List DeclaredCase
case_lines entries = filter_map case_of entries

-- after the first line the parts of the text are good lines, those of the entries, and then others:
-- each is proper, and none repeats an earlier one
pub record GoodStart (version : Version) (text : List ℕ) (entries : List Entry) (others : List (List ℕ)) : Type 0 where
  pub lines : parts text ≡ heading version ∷ (map entry_text entries ++ others)
  pub proper : All (IsProper version) entries
  pub once : AllPairs (λ a b. repeats a b ≡ false) entries

-- all lines are good, and each has its line feed
abbrev pub GoodText : Version → List ℕ → List Entry → Type 0
GoodText version text entries = GoodStart version text entries ([] ∷ [])

-- the text spells the regions: its lines are good, one of them is the stack's, the ranges of code
-- and of data are those of the lines, in whatever order, without the empty ones, and an address
-- has a target among the cases exactly where a line names it for the address
pub record Spells (text : List ℕ) (areas : Areas) : Type 0 where
  pub version : Version
  pub entries : List Entry
  pub good : GoodText version text entries
  pub code : IsPermutation (code_ranges entries) areas.code
  pub stack : stack_ranges entries ≡ areas.stack ∷ []
  pub data_ranges : IsPermutation (data_ranges entries) areas.data_ranges
  pub cases : (address target : ℕ) → has_target areas.cases address target ≡ has_target (case_lines entries) address target
  pub regions : AreRegions areas

-- a part that is no good line after those of the entries: the last part of the text, which lacks
-- its line feed, or a line that no proper entry spells but one that repeats an earlier line
abbrev pub IsBadLine : Version → List Entry → List ℕ → List (List ℕ) → Type 0
IsBadLine version entries line [] = ¬ (line ≡ [])
IsBadLine version entries line (other ∷ others) =
    (entry : Entry) → IsProper version entry → line ≡ entry_text entry → is_repeated entries entry ≡ true

-- the first bad line, counted from 1: the text ends within its first line, or a bad line follows
-- good ones
pub data IsFirstBadLine (text : List ℕ) (number : ℕ) : Type 0 where
  in_heading : (version : Version) → number ≡ 1 → parts text ≡ heading version ∷ [] → IsFirstBadLine text number
  after : (version : Version) (entries : List Entry) (line : List ℕ) (others : List (List ℕ)) →
      GoodStart version text entries (line ∷ others) → IsBadLine version entries line others → number ≡ length entries + 2 →
      IsFirstBadLine text number

-- all lines are good, and none is the stack's
pub record LacksStack (text : List ℕ) : Type 0 where
  pub version : Version
  pub entries : List Entry
  pub good : GoodText version text entries
  pub none : stack_ranges entries ≡ []

-- all lines are good, one is the stack's, and an address lies in two of their ranges
pub record Overlaps (text : List ℕ) : Type 0 where
  pub version : Version
  pub entries : List Entry
  pub stack : Range
  pub good : GoodText version text entries
  pub one : stack_ranges entries ≡ stack ∷ []
  pub overlap : ¬ (AreDisjoint (code_ranges entries ++ stack ∷ data_ranges entries))

-- what holds of the text if it is refused; `Memory` says nothing of the text
abbrev pub Refuses : List ℕ → RegionsFault → Type 0
Refuses text (BadLine number) = IsFirstBadLine text number
Refuses text BadVersion = (version : Version) (others : List (List ℕ)) → ¬ (parts text ≡ heading version ∷ others)
Refuses text RegionsOverlap = Overlaps text
Refuses text NoStack = LacksStack text
Refuses text Memory = Unit {0}

-- the lines of regions in the order in which they are written: code by address, the stack, data
-- by address, cases by address
abbrev pub entries_of : Areas → List Entry
entries_of areas = map Code areas.code ++ Stack areas.stack ∷ (map Data areas.data_ranges ++ map Case areas.cases)

-- the text of regions in a version
abbrev pub text_in : Version → Areas → List ℕ
text_in version areas = text_of (heading version ∷ map entry_text (entries_of areas))

-- the version that regions with these cases are written in: 2 exactly where there is a case
abbrev pub version_for : List DeclaredCase → Version
version_for [] = One
version_for (case ∷ cases) = Two

-- the text that is written for regions
abbrev pub regions_text : Areas → List ℕ
regions_text areas = text_in (version_for areas.cases) areas

-- after the migration of the bytes, the list has one more text: that of version 2 of the regions
-- that the bytes spell, which spells them too
pub record Migrates (bytes before after : List ℕ) : Type 0 where
  pub areas : Areas
  pub old : Spells bytes areas
  pub appended : after ≡ before ++ text_in Two areas
  pub same : Spells (text_in Two areas) areas
