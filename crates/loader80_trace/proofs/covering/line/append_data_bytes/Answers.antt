use Rattle.std.proofs.Common.{◌≡◌, ◌+◌, ◌∙◌, ap, arith, sym}
use Rattle.std.specs.Prelude.{true}
use Rattle.text80.specs.Digits.{byte_text}
use Rattle.loader80_trace.specs.Cover.{is_data}
use Rattle.loader80_trace.proofs.CoverLemmas.{data_next}
use Rattle.loader80_trace.proofs.covering.line.append_data_bytes.Goals as goal

pub overflow_cast-address : goal.overflow_cast-address
overflow_cast-address c = omega (arith, c.is_data.ensures.within c.if-not-is_data.false)

pub loop-offset-preserved : goal.loop-offset-preserved
loop-offset-preserved c =
    data_next (is_data c.args.layout.now.regions.now c.args.layout.now.reached.now) c.args.layout.now.memory.now c.from-first.result c.loop-offset.offset c.loop-offset.lines.items _ _ _ byte_text c.loop-offset-test.true
    (sym c.is_data.ensures.value ∙ c.if-not-is_data.false) (c.byte_digits.ensures ∙ ap byte_text c.load.ensures.byte) c.in_ok-extend_from_slice.ensures.items c.loop-offset.invariant
