-- The modules that are linked: the roots, and those that are taken from the libraries.
-- (ISIS-II User's Guide, LINK.)
use Rattle.std.specs.Prelude.{◌≡◌, ◌↔◌, Some, List, ◌++◌, filter_map, Contains}
use Rattle.omf_model.specs.Modules.{ModuleValue}
use Rattle.link80.specs.declared.fault.LinkFault.{LinkFault}
use Rattle.link80.specs.LinkFault.{link_fault}
use Rattle.link80_select.specs.declared.chosen.Chosen.{Chosen}
use Rattle.link80_select.specs.Selected.{module_at, IsChosen, AreAscending}

-- the places of all that are chosen and no others, in ascending order
pub record IsSelection (roots : List ModuleValue) (libraries : List (List ModuleValue)) (taken : List Chosen) : Type 0 where
  pub chosen : (place : Chosen) → Contains taken place ↔ IsChosen roots libraries place
  pub ascending : AreAscending taken

-- the roots, and then the modules at these places
abbrev pub modules_with : List ModuleValue → List (List ModuleValue) → List Chosen → List ModuleValue
modules_with roots libraries taken = roots ++ filter_map (module_at libraries) taken

-- what is chosen can't be linked with the roots, and this is the first cause
pub record CannotBeLinked (roots : List ModuleValue) (libraries : List (List ModuleValue)) (fault : LinkFault) : Type 0 where
  pub taken : List Chosen
  pub selection : IsSelection roots libraries taken
  pub first : link_fault (modules_with roots libraries taken) ≡ Some fault
