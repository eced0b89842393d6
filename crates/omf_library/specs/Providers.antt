-- The module that provides a name to others.
-- (8080 Object Module Formats, public declarations records; ISIS-II User's Guide, LINK: of several modules that declare a
-- name, the first is taken.)
use Rattle.std.specs.Prelude.{◌≡◌, ℕ, Bool, if◌then◌else◌, Option, Some, List}
use Rattle.std.specs.List.{list_any, position_from}
use Rattle.std.specs.Map.{lookup}
use Rattle.omf_core.specs.Name.{same_name}
use Rattle.omf_model.specs.Modules.{ModuleValue}

-- the module declares the name public
abbrev pub declares : List ℕ → ModuleValue → Bool
declares name m = list_any (λ p. same_name p.name name) m.publics

-- the place of the first module that declares the name, if the list starts at place `at`
abbrev pub first_provider_from : ℕ → List ModuleValue → List ℕ → Option ℕ
first_provider_from at modules name = position_from (declares name) at modules

-- the place of the first module that declares the name
abbrev pub first_provider : List ModuleValue → List ℕ → Option ℕ
first_provider = first_provider_from 0

-- the place that a table of names has for this one
abbrev pub place_in : List (List ℕ × ℕ) → List ℕ → Option ℕ
place_in places name = lookup (same_name name) places

-- the table has the first provider of each name that a module declares, and no other name
pub record AreProvidersFrom (at : ℕ) (modules : List ModuleValue) (places : List (List ℕ × ℕ)) : Type 0 where
  pub first : (name : List ℕ) → place_in places name ≡ first_provider_from at modules name

abbrev pub AreProviders : List ModuleValue → List (List ℕ × ℕ) → Type 0
AreProviders = AreProvidersFrom 0

-- some names have a place in the new table, and every other name has what it had
pub record TakesNames (are_new : List ℕ → Bool) (place : ℕ) (old new : List (List ℕ × ℕ)) : Type 0 where
  pub taken : (name : List ℕ) → place_in new name ≡ (if are_new name then Some place else place_in old name)
