use Rattle.std.proofs.Common.{◌+◌, subst, sym}
use Rattle.verify80_cases.specs.Marks.{AreMarks}
use Rattle.verify80_suggest.specs.Suggestion.{is_taken}
use Rattle.verify80_suggest.proofs.RangeLemmas.{marks_more}
use Rattle.verify80_suggest.proofs.arranging.find_taken.Goals as goal

pub loop-address-preserved : goal.loop-address-preserved
loop-address-preserved c =
    let at = c.loop-address.address in
    record {
      marks = subst (AreMarks (is_taken c.args.survey.now) (at + 1)) (sym c.in_ok-push.ensures.items)
          (marks_more (is_taken c.args.survey.now) at c.loop-address.marks.items c.is_taken.result c.loop-address.invariant.marks c.is_taken.ensures);
    }
