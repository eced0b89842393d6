use Rattle.std.proofs.Common.{arith}
use Rattle.link80_select.proofs.MarkLemmas.{search_inside, search_next, search_end}
use Rattle.link80_select.proofs.selecting.mark_reached.Goals as goal

pub get-requires : goal.get-requires
get-requires c = (search_inside c.args.row.now c.args.roots c.loop-looked_at.looked_at c.index-number.result.now
    c.loop-looked_at.search.marked.items c.loop-looked_at.search.queue.items
    c.loop-looked_at.invariant (omega (arith, c.loop-looked_at-test.true, c.len.ensures)) c.index-number.ensures).1

pub loop-looked_at-preserved : goal.loop-looked_at-preserved
loop-looked_at-preserved c =
    let at = (search_inside c.args.row.now c.args.roots c.loop-looked_at.looked_at c.index-number.result.now
    c.loop-looked_at.search.marked.items c.loop-looked_at.search.queue.items
    c.loop-looked_at.invariant (omega (arith, c.loop-looked_at-test.true, c.len.ensures)) c.index-number.ensures).0 in
    search_next c.args.row.now c.args.roots c.loop-looked_at.looked_at c.index-number.result.now c.get.result.now
    c.loop-looked_at.search.marked.items _
    c.loop-looked_at.search.queue.items _ c.loop-looked_at.invariant at c.get.ensures c.in_ok-mark_needed.ensures

pub returns : goal.returns
returns c = search_end c.args.row.now c.args.roots c.loop-looked_at.looked_at c.loop-looked_at.search.marked.items
    c.loop-looked_at.search.queue.items c.loop-looked_at.invariant
    (omega (arith, c.loop-looked_at-test.false, c.len.ensures))
