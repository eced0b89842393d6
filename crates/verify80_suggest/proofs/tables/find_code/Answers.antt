use Rattle.std.proofs.Common.{◌+◌, subst, sym}
use Rattle.verify80_cases.specs.Marks.{AreMarks}
use Rattle.verify80_suggest.specs.Tables.{is_code}
use Rattle.verify80_suggest.proofs.RangeLemmas.{marks_more}
use Rattle.verify80_suggest.proofs.tables.find_code.Goals as goal

pub loop-address-preserved : goal.loop-address-preserved
loop-address-preserved c =
    let at = c.loop-address.address in
    record {
      marks = subst (AreMarks (is_code c.args.covered.now c.args.tables.now c.args.ram.now) (at + 1)) (sym c.in_ok-push.ensures.items)
          (marks_more (is_code c.args.covered.now c.args.tables.now c.args.ram.now) at c.loop-address.marks.items c.is_code.result c.loop-address.invariant.marks c.is_code.ensures);
    }
