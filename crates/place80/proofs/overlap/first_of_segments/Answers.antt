use Rattle.std.proofs.Common.{◌∙◌, sym}
use Rattle.place80.specs.declared.placed_segments.Placed.{Placed}
use Rattle.place80.proofs.PairLemmas.{pairs_from, found_here, found_later}
use Rattle.place80.proofs.overlap.first_of_segments.Goals as goal

pub returns-in-Some : goal.returns-in-Some
returns-in-Some c =
    let d : Placed = record { id = 0; base = 0; length = 0 } in
    let here = pairs_from c.args.segments.now c.loop-index.index d c.loop-index-test.true in
    sym (found_here _ c.in-Some.pair _ _ here (sym c.first_beside.ensures ∙ c.in-Some.is)) ∙ c.loop-index.invariant

pub loop-index-preserved : goal.loop-index-preserved
loop-index-preserved c =
    let d : Placed = record { id = 0; base = 0; length = 0 } in
    let here = pairs_from c.args.segments.now c.loop-index.index d c.loop-index-test.true in
    sym (found_later _ _ _ here (sym c.first_beside.ensures ∙ c.in_default.is)) ∙ c.loop-index.invariant
