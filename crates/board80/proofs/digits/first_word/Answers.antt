use Rattle.std.proofs.Common.{◌∙◌, ap, take, drop}
use Rattle.std.proofs.lemmas.List.{take_rest}
use Rattle.board80.proofs.WordLemmas.{rest_is, word_is}
use Rattle.board80.proofs.digits.first_word.Goals as goal

pub returns-clause-word : goal.returns-clause-word
returns-clause-word c = word_is c.args.text.now _ (ap (λ n. take n c.args.text.now) c.space-end.ensures.place)

pub returns-clause-at_end : goal.returns-clause-at_end
returns-clause-at_end c = rest_is c.args.text.now _ (take_rest c.args.text.now c.space-end.result ∙ ap (λ n. drop n c.args.text.now) c.space-end.ensures.place)
