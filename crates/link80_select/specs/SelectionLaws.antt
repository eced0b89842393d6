-- What a link takes is determined: two lists of all chosen places and of no others, both in ascending order, are the same.
use Rattle.std.specs.Prelude.{◌≡◌, ◌↔◌, List, Contains}
use Rattle.omf_model.specs.Modules.{ModuleValue}
use Rattle.link80_select.specs.declared.chosen.Chosen.{Chosen}
use Rattle.link80_select.specs.Selected.{IsChosen, AreAscending}

abbrev pub SelectionsAreUnique : Type 0
SelectionsAreUnique =
    (roots : List ModuleValue) (libraries : List (List ModuleValue)) (one other : List Chosen)
    → ((place : Chosen) → Contains one place ↔ IsChosen roots libraries place) → AreAscending one
    → ((place : Chosen) → Contains other place ↔ IsChosen roots libraries place) → AreAscending other
    → one ≡ other
