-- the marked places so far, and those that are left
use Rattle.std.proofs.Common.{◌≡◌, ◌++◌, drop, length}
use Rattle.link80_select.specs.Selecting.{marked_places}
use Rattle.link80_select.proofs.selecting.with_mark.Given as goal

abbrev pub invariant-loop-place : goal.invariant-loop-place
invariant-loop-place l =
    l.taken.items ++ marked_places (drop (length l.yielded) l.places) (drop (length l.yielded) l.marked)
    ≡ marked_places l.places l.marked
