use Rattle.rom80_find.specs.Dump.{dump_of}
use Rattle.rom80_find.proofs.MarkLemmas.{marked_more, no_marks}
use Rattle.rom80_find.proofs.marks.mark_all.Goals as goal

pub loop-at-init : goal.loop-at-init
loop-at-init c = no_marks (dump_of c.args.dump) c.args.marks.now c.requires.whole c.requires.none

pub loop-at-preserved : goal.loop-at-preserved
loop-at-preserved c =
    marked_more (dump_of c.args.dump) c.loop-at.at c.loop-at.marks c.mark_address.new.marks c.byte_at.result c.loop-at-test.true c.byte_at.ensures
    c.loop-at.invariant c.mark_address.ensures.whole c.mark_address.ensures.each
