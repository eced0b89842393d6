use Rattle.std.proofs.Common.{◌+◌, subst, sym}
use Rattle.verify80_cases.specs.Marks.{AreMarks}
use Rattle.verify80_suggest.specs.Tables.{in_table}
use Rattle.verify80_suggest.proofs.RangeLemmas.{marks_more}
use Rattle.verify80_suggest.proofs.tables.find_bytes_of.Goals as goal

pub loop-address-preserved : goal.loop-address-preserved
loop-address-preserved c =
    let at = c.loop-address.address in
    record {
      marks = subst (AreMarks (in_table c.args.words.now c.args.firsts.now c.args.lasts.now) (at + 1)) (sym c.in_ok-push.ensures.items)
          (marks_more (in_table c.args.words.now c.args.firsts.now c.args.lasts.now) at c.loop-address.marks.items c.is_in_table.result c.loop-address.invariant.marks c.is_in_table.ensures);
    }
