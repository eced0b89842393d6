use Rattle.std.proofs.Common.{◌∷◌, []}
use Rattle.std.specs.Prelude.{Some}
use Rattle.std.proofs.lemmas.Bool.Decides.{Decides-eqb}
use Rattle.std.proofs.lemmas.Slice.Eq.{strip_prefix_is}
use Rattle.board80.proofs.ReadLemmas.{no_item_times}
use Rattle.board80.proofs.read_list.read_item.Goals as goal

pub returns-in_default-3-clause-none : goal.returns-in_default-3-clause-none
returns-in_default-3-clause-none c =
    no_item_times c.args.text.now c.in-Some.inner.now c.in-Some-2.after.now c.first_word.result.0.now c.first_word.result.1.now c.in-Some-2.bytes
    (strip_prefix_is Decides-eqb c.args.text.now (32 ∷ []) (Some c.in-Some.inner) c.in-Some.ensures.cases)
    (rw c.in-Some-2.is at c.in_ok-bytes.ensures.found) (rw c.in-Some-2.is at c.in_ok-bytes.ensures.proper)
    c.first_word.ensures.joined c.first_word.ensures.word c.first_word.ensures.at_end
    (rw c.in_default-3.is at c.in_ok-times.ensures.none)
