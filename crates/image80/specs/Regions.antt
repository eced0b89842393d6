-- The regions of a program: its code, its data, its stack and the targets of its jumps by PCHL.
-- (ISIS-II User's Guide, LOCATE: the segments CODE, DATA and STACK. That regions may not share an address is this project's
-- own.)
use Rattle.std.specs.Prelude.{ℕ, ◌+◌, ◌%◌, ◌≤◌, ◌<◌, ◌==◌, Bool, Option, List, [], ◌∷◌, ◌++◌, All, AllPairs, IsPermutation, count_by, find, ◌≡◌}
use Rattle.std.specs.Option.{option_map}
use Rattle.image80.specs.declared.range.Range.{Range}
use Rattle.image80.specs.Case.{DeclaredCase, IsCase, AreByAddress}
use Rattle.image80.specs.Range.{in_range, in_ranges, IsInMemory}

-- the ranges of code and of data, each list by address, the one range of the stack, and the cases
-- of declared addresses, by address
pub record Areas : Type 0 where
  pub code : List Range
  pub stack : Range
  pub data_ranges : List Range
  pub cases : List DeclaredCase

-- whether an address is in the code, a set of addresses
abbrev pub in_code : Areas → ℕ → Bool
in_code areas address = in_ranges areas.code address

-- whether an address is in the data, a set of addresses
abbrev pub in_data : Areas → ℕ → Bool
in_data areas address = in_ranges areas.data_ranges address

-- the stack's top as a word: the address just past the stack, 0 if the stack ends with memory
abbrev pub top_of : Areas → ℕ
top_of areas = (areas.stack.first + areas.stack.length) % 65536

-- the targets that are declared for an address, if one is declared
abbrev pub targets_at : Areas → ℕ → Option (List ℕ)
targets_at areas address = option_map (λ case. case.targets) (find (λ case. case.at == address) areas.cases)

-- all ranges: code, stack and data
abbrev pub all_ranges : Areas → List Range
all_ranges areas = areas.code ++ areas.stack ∷ areas.data_ranges

-- how many of the ranges hold an address
abbrev pub held : ℕ → List Range → ℕ
held address ranges = count_by (λ range. in_range range address) ranges

-- no address lies in two of the ranges
abbrev pub AreDisjoint : List Range → Type 0
AreDisjoint ranges = (address : ℕ) → held address ranges ≤ 1

-- ranges by address: each begins below every later one
abbrev pub IsByAddress : List Range → Type 0
IsByAddress ranges = AllPairs (λ a b. a.first < b.first) ranges

-- ranges by address, none of them empty, of which no two share an address
pub record AreApart (ranges : List Range) : Type 0 where
  pub by_address : IsByAddress ranges
  pub filled : All (λ range. 0 < range.length) ranges
  pub disjoint : AreDisjoint ranges

-- the rules of regions: code and data by address, none of these ranges empty, all in memory, and
-- no address in two of them; and the cases by address
pub record AreRegions (areas : Areas) : Type 0 where
  pub code_by_address : IsByAddress areas.code
  pub data_by_address : IsByAddress areas.data_ranges
  pub code_filled : All (λ range. 0 < range.length) areas.code
  pub data_filled : All (λ range. 0 < range.length) areas.data_ranges
  pub in_memory : All IsInMemory (all_ranges areas)
  pub disjoint : AreDisjoint (all_ranges areas)
  pub cases_by_address : AreByAddress areas.cases
  pub each_case : All IsCase areas.cases

-- the regions have these ranges, put by address, and no cases
pub record Arranges (code : List Range) (stack : Range) (data_ranges : List Range) (areas : Areas) : Type 0 where
  pub same_code : IsPermutation code areas.code
  pub same_stack : areas.stack ≡ stack
  pub same_data : IsPermutation data_ranges areas.data_ranges
  pub no_cases : areas.cases ≡ []
  pub rules : AreRegions areas
