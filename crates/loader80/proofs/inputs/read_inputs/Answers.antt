-- What the definitions say behind each line that was read.
use Rattle.std.proofs.Common.{◌≡◌, ◌++◌, None, Some, sym, ap, ◌∙◌, arith, append_assoc, true, is_some}
use Rattle.std.specs.Option.{option_map}
use Rattle.image80.specs.Lines.{parts}
use Rattle.loader80.specs.InputsText.{bad_part, inputs_of, line_input, pairs_of}
use Rattle.loader80.proofs.InputsLemmas.{bad_part-bad, bad_part-good, inputs_of-next, parts-some}
use Rattle.loader80.proofs.inputs.read_inputs.Goals as goal

pub returns-in_default-2-clause-fault : goal.returns-in_default-2-clause-fault
returns-in_default-2-clause-fault c =
    let bad : line_input c.in-Some.line.now ≡ None =
    sym c.in_ok-input.ensures ∙ ap (option_map _) c.in_default-2.is in
    let first = c.in-Some.ensures.found in
    sym c.loop-line.invariant.same_bad
    ∙ ap (bad_part c.loop-line.number) first
    ∙ bad_part-bad c.loop-line.number c.in-Some.line.now (parts c.in-Some.others.now) (parts-some c.in-Some.others.now) bad

pub loop-line-preserved : goal.loop-line-preserved
loop-line-preserved c =
    let first = c.in-Some.ensures.found in
    let some = parts-some c.in-Some.others.now in
    let spelled : line_input c.in-Some.line.now ≡ Some (pairs_of c.in-Some-2.input.port c.in-Some-2.input.bytes.items) =
    sym c.in_ok-input.ensures ∙ ap (option_map _) c.in-Some-2.is in
    let good : is_some (line_input c.in-Some.line.now) ≡ true = ap is_some spelled in
    record {
      numbered = omega (arith, c.in-Some.ensures.shorter);
      same_bad = sym (bad_part-good c.loop-line.number c.in-Some.line.now (parts c.in-Some.others.now) some good)
          ∙ sym (ap (bad_part c.loop-line.number) first) ∙ c.loop-line.invariant.same_bad;
      spelled = c.loop-line.invariant.spelled
          ∙ ap (λ s. c.loop-line.pairs.items ++ s) (inputs_of-next c.loop-line.rest.now c.in-Some.line.now c.in-Some.others.now _ first spelled)
          ∙ sym (append_assoc c.loop-line.pairs.items _ (inputs_of c.in-Some.others.now))
          ∙ ap (λ s. s ++ inputs_of c.in-Some.others.now) (sym c.in_ok-append_to.ensures);
    }
