use Rattle.link80_select.proofs.MarkLemmas.{search_root}
use Rattle.link80_select.proofs.selecting.Search.from_roots.Goals as goal

pub loop-number-preserved : goal.loop-number-preserved
loop-number-preserved c =
    search_root c.args.row.now c.loop-number.number c.loop-number.search.marked.items _ c.loop-number.search.queue.items _
    c.loop-number.invariant c.in_ok-mark.ensures
