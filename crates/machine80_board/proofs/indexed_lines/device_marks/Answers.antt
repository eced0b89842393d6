use Rattle.std.proofs.Common.{subst, sym}
use Rattle.board80.specs.declared.line.Line.{Line}
use Rattle.board80.specs.Board.{IsProper}
use Rattle.machine80_board.proofs.LineLemmas.{marked_more, marked_none}
use Rattle.machine80_board.proofs.indexed_lines.device_marks.Goals as goal

pub loop-line-init : goal.loop-line-init
loop-line-init c =
    let h = c.in_ok-marks.ensures.items_if_clones_equal in
    marked_none c.in_ok-marks.marks.items (h (λ y e. e))

pub mark_device-requires-clause-proper : goal.mark_device-requires-clause-proper
mark_device-requires-clause-proper c = subst (λ (x : Line). IsProper x) (sym c.line-item.is) (c.requires c.loop-line.line-index c.line-item.result c.loop-line-test.true)

pub loop-line-preserved : goal.loop-line-preserved
loop-line-preserved c =
    marked_more c.args.lines.now c.loop-line.line-index c.line-item.result c.loop-line.marks.items c.mark_device.new.marks.items c.loop-line-test.true c.line-item.is c.loop-line.invariant
    c.mark_device.ensures.whole c.mark_device.ensures.marked
