-- the places so far, and those of the libraries that are left
use Rattle.std.proofs.Common.{◌≡◌, ◌++◌, drop}
use Rattle.link80_select.specs.Selecting.{places_from}
use Rattle.link80_select.proofs.selecting.places_of.Given as goal

abbrev pub invariant-loop-number : goal.invariant-loop-number
invariant-loop-number l = l.places.items ++ places_from l.number (drop l.number l.libraries) ≡ places_from 0 l.libraries
