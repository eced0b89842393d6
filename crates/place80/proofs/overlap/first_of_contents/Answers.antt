use Rattle.std.proofs.Common.{◌∙◌, sym}
use Rattle.place80.proofs.PairLemmas.{contents_from, found_here, found_later, records_left}
use Rattle.place80.proofs.overlap.first_of_contents.Goals as goal

pub returns-in-Some : goal.returns-in-Some
returns-in-Some c =
    let here = contents_from c.args.segments.now c.contents-contents.result.now c.loop-content.content-index c.content-item.result
    c.loop-content-test.true c.content-item.is in
    sym (found_here _ c.in-Some.pair _ _ here (sym c.first_of_content.ensures ∙ c.in-Some.is)) ∙ c.loop-content.invariant.found

pub loop-content-preserved : goal.loop-content-preserved
loop-content-preserved c =
    let here = contents_from c.args.segments.now c.contents-contents.result.now c.loop-content.content-index c.content-item.result
    c.loop-content-test.true c.content-item.is in
    record {
      found = sym (found_later _ _ _ here (sym c.first_of_content.ensures ∙ c.in_default.is)) ∙ c.loop-content.invariant.found;
      few = records_left c.contents-contents.result.now c.loop-content.content-index c.content-item.result c.loop-content-test.true
          c.loop-content.invariant.few;
    }
