use Rattle.std.proofs.Common.{◌≡◌, ◌∙◌, ap, arith, rules, sym, length}
use Rattle.rom80_pattern.specs.declared.code_byte.CodeByte.{CodeByte}
use Rattle.rom80_pattern.specs.CodeBytes.{number_of}
use Rattle.rom80_find.proofs.BitLemmas.{same_default}
use Rattle.rom80_find.proofs.GroupLemmas.{apart_from, first_is}
use Rattle.rom80_find.proofs.fitting.count_of_value.Goals as goal

pub returns-then-number_of-number-clause-others : goal.returns-then-number_of-number-clause-others
returns-then-number_of-number-clause-others c =
    let bytes = c.args.bytes.now in
    let i = c.loop-index.index in
    apart_from i bytes c.requires.some c.requires.sorted c.loop-index.invariant
    (λ d lt e.
    let same : c.number_of.result ≡ c.number_of-number.result =
    c.number_of.ensures.number
    ∙ (ap (λ (b : CodeByte). number_of b.target) (same_default bytes i _ d lt)
    ∙ (e ∙ (sym (first_is bytes _ c.requires.some) ∙ sym c.number_of-number.ensures.number))) in
    omega (arith, same, c.if-number_of-number.true))

pub returns-clause-others : goal.returns-clause-others
returns-clause-others c =
    let bytes = c.args.bytes.now in
    apart_from (length bytes) bytes c.requires.some c.requires.sorted (search (rules, c.loop-index.invariant)) (λ d lt e. omega (arith, lt))
