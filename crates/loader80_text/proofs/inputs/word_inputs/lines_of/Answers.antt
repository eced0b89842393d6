use Rattle.std.proofs.Common.{arith}
use Rattle.loader80_text.proofs.TextLemmas.{line_within}
use Rattle.loader80_text.proofs.inputs.word_inputs.lines_of.Goals as goal

pub append_line-requires : goal.append_line-requires
append_line-requires c =
    let line = line_within c.args.inputs.now c.loop-input.input-index (record { port = 0; count = 0; byte = 0 }) c.loop-input-test.true in
    let within = c.requires in
    omega (arith, line, within)
