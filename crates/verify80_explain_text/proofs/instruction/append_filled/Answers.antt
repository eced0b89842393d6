use Rattle.std.proofs.Common.{arith}
use Rattle.verify80_explain_text.proofs.TextLemmas.{filled_up}
use Rattle.verify80_explain_text.proofs.instruction.append_filled.Goals as goal

pub returns : goal.returns
returns c = filled_up c.args.text.now.items _ _ _ c.len-before.result (omega (arith, c.len-before.ensures)) c.in_ok-write_text.ensures.ok c.in_ok-fill_from.ensures
