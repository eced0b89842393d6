use Rattle.std.proofs.Common.{rules, ◌<◌}
use Rattle.std.specs.Prelude.{IfSome}
use Rattle.image80_text.proofs.TextLemmas.{word_at}
use Rattle.image80_text.proofs.addresses.address_at.Goals as goal

pub returns : goal.returns
returns c =
    let below : IfSome c.word_of_digits.result (λ n. n < 65536) = search (rules, c.word_of_digits.type_inv) in
    word_at c.args.text.now c.word_of_digits.result c.in-len4-up.len_at_least c.word_of_digits.ensures.value below
    c.word_of_digits.ensures.none
