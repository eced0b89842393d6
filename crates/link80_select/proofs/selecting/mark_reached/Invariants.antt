use Rattle.std.specs.Prelude.{◌-◌, length}
use Rattle.link80_select.specs.Selecting.{IsSearched}
use Rattle.link80_select.proofs.selecting.mark_reached.Given as goal

abbrev pub invariant-loop-looked_at : goal.invariant-loop-looked_at
invariant-loop-looked_at l = IsSearched l.row l.roots l.looked_at l.search.marked.items l.search.queue.items

abbrev pub decreases-loop-looked_at : goal.decreases-loop-looked_at
decreases-loop-looked_at l = length l.row - l.looked_at
