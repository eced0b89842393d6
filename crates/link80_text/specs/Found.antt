-- What is found of modules that were taken: for each a need, by which one leads to a root.
use Rattle.std.specs.Prelude.{◌≡◌, ◌⊎◌, ◌<◌, ◌+◌, ◌++◌, ℕ, List, Some, length, map, slice_get, take}
use Rattle.std.specs.List.{flat_map, AllZip}
use Rattle.omf_model.specs.Modules.{ModuleValue}
use Rattle.link80_select.specs.declared.chosen.Chosen.{Chosen}
use Rattle.link80.specs.Selection.{IsSelection, modules_with}
use Rattle.link80_text.specs.declared.reasons.search.Need.{Need}
use Rattle.link80_text.specs.Linked.{LinkedValue, target}
use Rattle.link80_text.specs.Reasons.{IsReasonLine, LeadToRoots, ReasonLine}

-- ---- needs

-- a linked module needs the one with a number among those that were taken
pub record IsNeeded (linked : LinkedValue) (number : ℕ) (need : Need) : Type 0 where
  pub by : ModuleValue
  pub name : List ℕ
  pub is_linked : slice_get linked.modules need.by ≡ Some by
  pub external : slice_get by.externals need.name ≡ Some name
  pub leads : target linked.roots linked.modules name ≡ Some number

-- the module that needs it is needed itself, in fewer steps
pub record IsAfter (roots : ℕ) (needs : List Need) (need : Need) : Type 0 where
  pub number : ℕ
  pub other : Need
  pub is : need.by ≡ roots + number
  pub there : slice_get needs number ≡ Some other
  pub fewer : other.steps < need.steps

-- or it is a root
abbrev pub IsNearer : (roots : ℕ) → List Need → Need → Type 0
IsNearer roots needs need = (need.by < roots) ⊎ IsAfter roots needs need

pub record AreNeeds (linked : LinkedValue) (needs : List Need) (count : ℕ) : Type 0 where
  pub len : length needs ≡ count
  pub needed : (number : ℕ) (need : Need) → slice_get needs number ≡ Some need → IsNeeded linked number need
  pub nearer : (number : ℕ) (need : Need) → slice_get needs number ≡ Some need → IsNearer linked.roots needs need

-- ---- reasons

-- what callers see of them: what was linked, and for each module that was taken the number of the one that needs it
pub record ReasonsValue : Type 0 where
  pub roots : List ModuleValue
  pub libraries : List (List ModuleValue)
  pub taken : List Chosen
  pub named : List ℕ

pub record AreReasonsIn (roots : List ModuleValue) (libraries : List (List ModuleValue)) (taken : List Chosen)
    (modules : List ModuleValue) (needs : List Need) : Type 0 where
  pub selection : IsSelection roots libraries taken
  pub modules_are : modules ≡ modules_with roots libraries taken
  pub are : AreNeeds (record { roots = length roots; modules = modules_with roots libraries taken }) needs (length taken)

-- reasons are those of what was linked, and lead to roots
pub record AreReasonsFor (roots : List ModuleValue) (libraries : List (List ModuleValue)) (taken : List Chosen) (s : ReasonsValue) : Type 0 where
  pub roots_are : s.roots ≡ roots
  pub libraries_are : s.libraries ≡ libraries
  pub taken_are : s.taken ≡ taken
  pub lead : LeadToRoots (length roots) s.named
  pub len : length s.named ≡ length taken

-- ---- lines

-- a text with the line of a module that was taken behind it
pub record PrintsLine (s : ReasonsValue) (paths : List (List ℕ)) (number : ℕ) (place : Chosen) (before after : List ℕ) : Type 0 where
  pub line : ReasonLine
  pub is_line : IsReasonLine s.roots s.libraries s.taken paths place line
  pub named : slice_get s.named number ≡ Some line.by
  pub after_is : after ≡ before ++ line.text

-- a text with the lines of the first ones behind it
pub record PrintsLines (s : ReasonsValue) (paths : List (List ℕ)) (count : ℕ) (before after : List ℕ) : Type 0 where
  pub lines : List ReasonLine
  pub each : AllZip (IsReasonLine s.roots s.libraries s.taken paths) (take count s.taken) lines
  pub named : map (λ line. line.by) lines ≡ take count s.named
  pub after_is : after ≡ before ++ flat_map (λ line. line.text) lines
