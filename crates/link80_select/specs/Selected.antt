-- The modules that a link takes from its libraries: those that the roots need, and those that these need in turn.
-- (ISIS-II User's Guide, LINK: a module of a library is taken if it declares a name that another one needs. Which one, of
-- several that declare it, and the order of those taken, are this project's own.)
use Rattle.std.specs.Prelude.{◌≡◌, ℕ, ◌<◌, ◌⊎◌, true, false, Option, Some, option_and_then, List, [], ◌∷◌, slice_get, Contains}
use Rattle.std.specs.List.{list_any, AllByRecursion}
use Rattle.omf_model.specs.Modules.{ModuleValue}
use Rattle.omf_library.specs.Providers.{declares}
use Rattle.link80_select.specs.declared.chosen.Chosen.{Chosen}

-- the module at a place
abbrev pub module_at : List (List ModuleValue) → Chosen → Option ModuleValue
module_at libraries place = option_and_then (λ modules. slice_get modules place.module) (slice_get libraries place.library)

-- libraries in order, and in each its modules in order
abbrev pub IsBefore : Chosen → Chosen → Type 0
IsBefore p q = (p.library < q.library) ⊎ ((p.library ≡ q.library) × (p.module < q.module))

-- the first library module that declares the name public stands at this place
pub record IsFirstProvider (libraries : List (List ModuleValue)) (name : List ℕ) (place : Chosen) : Type 0 where
  pub provider : ModuleValue
  pub there : module_at libraries place ≡ Some provider
  pub declares_it : declares name provider ≡ true
  pub none_before : (before : Chosen) (m : ModuleValue) → IsBefore before place → module_at libraries before ≡ Some m
      → declares name m ≡ false

-- a module needs the one at a place: for a name that is external to it and public in no root
pub record Needs (roots : List ModuleValue) (libraries : List (List ModuleValue)) (m : ModuleValue)
    (place : Chosen) : Type 0 where
  pub name : List ℕ
  pub external : Contains m.externals name
  pub in_no_root : list_any (declares name) roots ≡ false
  pub first : IsFirstProvider libraries name place

-- the places of what is taken: what a root needs, and what a taken module needs
pub data IsChosen (roots : List ModuleValue) (libraries : List (List ModuleValue)) : Chosen → Type 0 where
  by_root : (root : ModuleValue) (place : Chosen) → Contains roots root → Needs roots libraries root place
      → IsChosen roots libraries place
  by_member : (member place : Chosen) (m : ModuleValue) → IsChosen roots libraries member → module_at libraries member ≡ Some m →
      Needs roots libraries m place → IsChosen roots libraries place

-- each place stands before all that follow
abbrev pub AreAscending : List Chosen → Type 0
AreAscending [] = Unit {0}
AreAscending (p ∷ ps) = AllByRecursion (IsBefore p) ps × AreAscending ps
