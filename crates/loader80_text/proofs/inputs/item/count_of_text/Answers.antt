use Rattle.std.proofs.Common.{ap, ◌∙◌, get_or, arith}
use Rattle.loader80_text.proofs.DigitLemmas.{parsed_count, parsed_zero, parsed_none}
use Rattle.loader80_text.proofs.inputs.item.count_of_text.Goals as goal

pub returns-in-Ok-eq0-clause-count : goal.returns-in-Ok-eq0-clause-count
returns-in-Ok-eq0-clause-count c =
    parsed_zero c.args.text.now c.in-Ok-eq0.field-0
    (λ plus. c.if-digits-eq43.false (ap (λ bytes. get_or bytes 0 0) c.as_bytes-digits.ensures.value ∙ plus))
    c.in-Ok-eq0.ensures.value.1 c.in-Ok-eq0.field-0-test

pub returns-in-Ok-clause-count : goal.returns-in-Ok-clause-count
returns-in-Ok-clause-count c =
    parsed_count c.args.text.now c.in-Ok.count
    (λ plus. c.if-digits-eq43.false (ap (λ bytes. get_or bytes 0 0) c.as_bytes-digits.ensures.value ∙ plus))
    c.in-Ok.ensures.value.0 c.in-Ok.ensures.value.1 (let some = c.in-Ok.count-test.1 in omega arith)

pub returns-in-Err-clause-count : goal.returns-in-Err-clause-count
returns-in-Err-clause-count c =
    parsed_none c.args.text.now
    (λ plus. c.if-digits-eq43.false (ap (λ bytes. get_or bytes 0 0) c.as_bytes-digits.ensures.value ∙ plus))
    c.in-Err.ensures.value
