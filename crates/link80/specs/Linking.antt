-- What a link of these modules answers.
-- (ISIS-II User's Guide, LINK.)
use Rattle.std.specs.Prelude.{◌≡◌, ◌≢◌, Some, None, ℕ, List}
use Rattle.std.specs.List.{AllByRecursion}
use Rattle.omf_model.specs.Modules.{ModuleValue}
use Rattle.omf_model.specs.Rules.{IsModule}
use Rattle.link80.specs.declared.fault.LinkFault.{LinkFault}
use Rattle.link80.specs.declared.fault.LinkFault.TheVariants.{Memory}
use Rattle.link80.specs.Linked.{linked, unresolved}
use Rattle.link80.specs.LinkFault.{link_fault}

-- the linked module, and the names that none of the modules declares, if no fault holds
pub record IsLinkOf (name : List ℕ) (modules : List ModuleValue) (program : ModuleValue) (names : List (List ℕ)) : Type 0 where
  pub program_is : program ≡ linked name modules
  pub names_are : names ≡ unresolved modules
  pub no_fault : link_fault modules ≡ None
  pub sound : AllByRecursion IsModule modules

-- the first fault that holds of the modules, or that memory ran out
abbrev pub IsFirstFault : List ModuleValue → LinkFault → Type 0
IsFirstFault modules fault = fault ≢ Memory → link_fault modules ≡ Some fault
