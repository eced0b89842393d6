-- the places so far, and those that are left
use Rattle.std.proofs.Common.{◌≡◌, ◌++◌, drop}
use Rattle.link80_select.specs.Selecting.{places_in}
use Rattle.link80_select.proofs.selecting.push_places.Given as goal

abbrev pub invariant-loop-number : goal.invariant-loop-number
invariant-loop-number l =
    l.places.items ++ places_in l.library l.number (drop l.number l.modules) ≡ l.initial.places.items
    ++ places_in l.library 0 l.modules
