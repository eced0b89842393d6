-- Which modules need a name, as lists in one table.
use Rattle.std.specs.Prelude.{◌≡◌, ℕ, suc, ◌<◌, ◌==◌, Bool, false, if◌then◌else◌, Option, Some, None, List, [], ◌∷◌, drop, slice_get}
use Rattle.std.specs.List.{AllByRecursion, list_any}
use Rattle.std.specs.Option.{option_map_or}
use Rattle.std.specs.Map.{lookup}
use Rattle.omf_core.specs.Name.{same_name}
use Rattle.omf_model.specs.Modules.{ModuleValue}
use Rattle.link80_text.specs.Parts.{needs_name, line_of_need}
use Rattle.link80_text.specs.declared.needs.Need.{Need}

-- the numbers of the modules that need it, if the first one has this number
abbrev pub needers : (name : List ℕ) → ℕ → List ModuleValue → List ℕ
needers name i [] = []
needers name i (m ∷ ms) = if needs_name name m then i ∷ needers name (suc i) ms else needers name (suc i) ms

-- from an entry on the table has these modules, one after another
abbrev pub IsChain : List Need → Option ℕ → List ℕ → Type 0
IsChain needs at [] = at ≡ None
IsChain needs at (m ∷ ms) = (j : ℕ) × ((o : Need) × ((at ≡ Some j) × ((slice_get needs j ≡ Some o) × ((o.number ≡ m) × IsChain needs o.next ms))))

-- a table of needs, and for names the first ones
pub record NeedsValue : Type 0 where
  pub heads : List (List ℕ × ℕ)
  pub needs : List Need

abbrev pub first_of : List (List ℕ × ℕ) → List ℕ → Option ℕ
first_of heads name = lookup (same_name name) heads

-- the entry is of this module
abbrev pub is_of : List Need → Option ℕ → ℕ → Bool
is_of needs None number = false
is_of needs (Some j) number = option_map_or (λ o. o.number == number) (slice_get needs j) false

-- the table has the modules from a number on
pub record AreNeeds (modules : List ModuleValue) (from : ℕ) (v : NeedsValue) : Type 0 where
  pub each : (name : List ℕ) → IsChain v.needs (first_of v.heads name) (needers name from (drop from modules))

-- it has these ones, which have greater numbers, and the module with this number for these names
pub record AreWith (names : List (List ℕ)) (number : ℕ) (rest : List ℕ → List ℕ) (v : NeedsValue) : Type 0 where
  pub each : (name : List ℕ) → IsChain v.needs (first_of v.heads name) (if list_any (λ e. same_name e name) names then number ∷ rest name else rest name)
  pub above : (name : List ℕ) → AllByRecursion (λ k. number < k) (rest name)

-- the name has this entry in the new table, and every other name what it had
pub record SetsFirst (name : List ℕ) (index : ℕ) (old new : List (List ℕ × ℕ)) : Type 0 where
  pub set : (other : List ℕ) → first_of new other ≡ (if same_name name other then Some index else first_of old other)

-- the line of the module with a number, if there is one
abbrev pub line_at : List ModuleValue → (name : List ℕ) → ℕ → List ℕ
line_at modules name number = option_map_or (λ m. line_of_need name m.name) (slice_get modules number) []

-- the line of the first of these modules, and the others
abbrev pub first_line : List ModuleValue → (name : List ℕ) → List ℕ → List ℕ
first_line modules name [] = []
first_line modules name (k ∷ ks) = line_at modules name k

abbrev pub others_of : List ℕ → List ℕ
others_of [] = []
others_of (k ∷ ks) = ks
