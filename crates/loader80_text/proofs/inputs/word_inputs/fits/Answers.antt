use Rattle.std.proofs.Common.{arith}
use Rattle.loader80_text.proofs.TextLemmas.{too_long, length_more}
use Rattle.loader80_text.proofs.inputs.word_inputs.fits.Goals as goal
use Rattle.loader80_text.proofs.inputs.word_inputs.fits.Goals.{then-left-lt4-via-then-left-lt4, then-left-lt4-via-else-left-lt4+then-left-input}

pub returns-then-left-lt4 : goal.returns-then-left-lt4
returns-then-left-lt4 c =
    elim c.then-left-lt4.branch [
      | then-left-lt4-via-then-left-lt4 w ↦ too_long c.args.inputs.now c.loop-input.input-index c.loop-input.left (record { port = 0; count = 0; byte = 0 }) c.loop-input-test.true c.loop-input.invariant (let small = w.if-left-lt4.true in omega arith)
      | then-left-lt4-via-else-left-lt4+then-left-input w ↦ too_long c.args.inputs.now c.loop-input.input-index c.loop-input.left (record { port = 0; count = 0; byte = 0 }) c.loop-input-test.true c.loop-input.invariant (let some = w.if-left-lt4.false in let small = w.if-left-input.true in omega arith)
    ]

pub loop-input-preserved : goal.loop-input-preserved
loop-input-preserved c =
    let more = length_more c.args.inputs.now c.loop-input.input-index (record { port = 0; count = 0; byte = 0 }) c.loop-input-test.true in
    let before = c.loop-input.invariant in
    let some = c.if-left-lt4.false in
    let room = c.if-left-input.false in
    omega (arith, more, before, some, room)
