use Rattle.std.specs.Prelude.{◌+◌, not}
use Rattle.std.proofs.Common.{◌∙◌, ap, sym}
use Rattle.place80_text.specs.Board.{is_mapped}
use Rattle.place80_text.proofs.BoardLemmas.{find_later}
use Rattle.place80_text.proofs.board.unmapped_from.Goals as goal

pub loop-address-preserved : goal.loop-address-preserved
loop-address-preserved c =
    sym (find_later (λ a. not (is_mapped c.args.board.rom.now c.args.board.ram.now c.args.segment a)) c.loop-address.address (c.args.first + c.args.count)
    c.loop-address-test.true (ap not (sym c.is_mapped.ensures ∙ c.if-not-is_mapped.false)))
    ∙ c.loop-address.invariant
