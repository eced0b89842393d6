use Rattle.link80_select.specs.Selecting.{IsSearched}
use Rattle.link80_select.proofs.selecting.Search.from_roots.Given as goal

abbrev pub invariant-loop-number : goal.invariant-loop-number
invariant-loop-number l = IsSearched l.row l.number 0 l.search.marked.items l.search.queue.items
