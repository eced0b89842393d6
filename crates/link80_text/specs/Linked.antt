-- Linked modules, and which of those that were taken a name leads to.
use Rattle.std.specs.Prelude.{ℕ, ◌-◌, nat_lt, if◌then◌else◌, Option, Some, None, option_and_then, List}
use Rattle.omf_model.specs.Modules.{ModuleValue}
use Rattle.omf_library.specs.Providers.{first_provider}

-- the number of a linked module among those that were taken; a root has none
abbrev pub number_of : (roots number : ℕ) → Option ℕ
number_of roots number = if nat_lt number roots then None else Some (number - roots)

-- the number of the module that was taken for a name: the first of the linked modules that declares it
abbrev pub target : (roots : ℕ) → List ModuleValue → List ℕ → Option ℕ
target roots modules name = option_and_then (number_of roots) (first_provider modules name)

-- linked modules, the first of which are roots
pub record LinkedValue : Type 0 where
  pub roots : ℕ
  pub modules : List ModuleValue
