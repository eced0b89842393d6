use Rattle.std.proofs.Common.{◌+◌, subst, sym}
use Rattle.verify80_cases.specs.Covered.{is_covered}
use Rattle.verify80_cases.specs.Marks.{AreMarks}
use Rattle.verify80_cases.proofs.MarkLemmas.{marks_more}
use Rattle.verify80_cases.proofs.covered.find_covered.Goals as goal

pub loop-address-preserved : goal.loop-address-preserved
loop-address-preserved c =
    let test = is_covered c.args.code.now c.args.reached.now in
    let at = c.loop-address.address in
    record {
      marks = subst (AreMarks test (at + 1)) (sym c.in_ok-push.ensures.items)
          (marks_more test at c.loop-address.marks.items c.is_covered.result c.loop-address.invariant.marks c.is_covered.ensures);
    }
