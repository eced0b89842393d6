use Rattle.std.proofs.Common.{arith}
use Rattle.loader80_trace.proofs.CoverLemmas.{filled_up}
use Rattle.loader80_trace.proofs.covering.line.append_filled.Goals as goal

pub returns : goal.returns
returns c = filled_up c.args.lines.now.items _ _ _ c.len-before.result (omega (arith, c.len-before.ensures)) c.in_ok-write_text.ensures.ok c.in_ok-fill_from.ensures
