-- Why LINK takes a module from a library: a name that is needed, and a module that needs it.
-- (ISIS-II User's Guide, LINK: a module of a library is included if it resolves an external. That a need is named, and the form of the
-- lines, are this project's own.)
use Rattle.std.specs.Prelude.{◌≡◌, ℕ, ◌+◌, ◌<◌, false, Some, List, [], ◌∷◌, ◌++◌, codes, length, map, slice_get, slice_index_or}
use Rattle.std.specs.List.{flat_map, list_any, AllZip}
use Rattle.omf_model.specs.Modules.{ModuleValue}
use Rattle.omf_library.specs.Providers.{declares}
use Rattle.link80_select.specs.declared.chosen.Chosen.{Chosen}
use Rattle.link80_select.specs.Selected.{module_at, IsFirstProvider}
use Rattle.link80.specs.Selection.{modules_with}
use Rattle.link80_text.specs.ShownPaths.{shown_path}

-- ---- reasons

-- no root declares the name, and the module at the place is the first in the libraries that does
pub record IsSoughtAt (roots : List ModuleValue) (libraries : List (List ModuleValue)) (name : List ℕ) (place : Chosen) : Type 0 where
  pub in_no_root : list_any (declares name) roots ≡ false
  pub first : IsFirstProvider libraries name place

-- The module at a place is taken for a name that a linked module needs: the one with this number, roots first.
pub record IsReason (roots : List ModuleValue) (libraries : List (List ModuleValue)) (taken : List Chosen) (place : Chosen)
    (name : List ℕ) (number : ℕ) (by : ModuleValue) : Type 0 where
  pub index : ℕ
  pub is_linked : slice_get (modules_with roots libraries taken) number ≡ Some by
  pub external : slice_get by.externals index ≡ Some name
  pub sought : IsSoughtAt roots libraries name place

-- The linked module with a number is a root, or it was taken, and the one that is named for it leads to a root.
pub data LeadsToRoot (roots : ℕ) (named : List ℕ) : ℕ → Type 0 where
  root : (number : ℕ) → number < roots → LeadsToRoot roots named number
  onward : (number by : ℕ) → slice_get named number ≡ Some by → LeadsToRoot roots named by → LeadsToRoot roots named (roots + number)

-- so do all that are named
abbrev pub LeadToRoots : (roots : ℕ) → (named : List ℕ) → Type 0
LeadToRoots roots named = (number by : ℕ) → slice_get named number ≡ Some by → LeadsToRoot roots named by

-- ---- lines

-- the line of a module that was taken: its name, the name that is needed, the module that needs it, and the library's file
abbrev pub reason_line : (taken name by path : List ℕ) → List ℕ
reason_line taken name by path =
    (codes "TAKEN " ++ taken) ++ ((codes " FOR " ++ name) ++ ((codes " BY " ++ by) ++ ((codes " FROM " ++ shown_path path) ++ 10 ∷ [])))

-- a line, and the number of the module that it names behind BY
pub record ReasonLine : Type 0 where
  pub by : ℕ
  pub text : List ℕ

-- the line of the module at a place; the path of its library is that with the library's number
pub record IsReasonLine (roots : List ModuleValue) (libraries : List (List ModuleValue)) (taken : List Chosen)
    (paths : List (List ℕ)) (place : Chosen) (line : ReasonLine) : Type 0 where
  pub provider : ModuleValue
  pub name : List ℕ
  pub by : ModuleValue
  pub there : module_at libraries place ≡ Some provider
  pub reason : IsReason roots libraries taken place name line.by by
  pub line_is : line.text ≡ reason_line provider.name name by.name (slice_index_or paths place.library [])

-- a text with a line for each of these places behind it, in order, and from each line BY leads to a root
pub record PrintsReasons (roots : List ModuleValue) (libraries : List (List ModuleValue)) (taken : List Chosen)
    (paths : List (List ℕ)) (places : List Chosen) (before after : List ℕ) : Type 0 where
  pub lines : List ReasonLine
  pub each : AllZip (IsReasonLine roots libraries taken paths) places lines
  pub lead : LeadToRoots (length roots) (map (λ line. line.by) lines)
  pub after_is : after ≡ before ++ flat_map (λ line. line.text) lines
