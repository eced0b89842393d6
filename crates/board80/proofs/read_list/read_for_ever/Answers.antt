use Rattle.std.proofs.Common.{◌∷◌, ◌∙◌, [], sym}
use Rattle.std.proofs.lemmas.Bool.{true≢false}
use Rattle.std.specs.Prelude.{Some}
use Rattle.std.proofs.lemmas.Bool.Decides.{Decides-eqb}
use Rattle.std.proofs.lemmas.Slice.Eq.{strip_prefix_is}
use Rattle.board80.proofs.ReadLemmas.{no_for_ever_star}
use Rattle.board80.proofs.read_list.read_for_ever.Goals as goal

pub returns-then-not-is_star-clause-none : goal.returns-then-not-is_star-clause-none
returns-then-not-is_star-clause-none c =
    no_for_ever_star c.args.text.now c.in-Some.inner.now c.in-Some-2.after.now c.in-Some-2.bytes
    (strip_prefix_is Decides-eqb c.args.text.now (32 ∷ []) (Some c.in-Some.inner) c.in-Some.ensures.cases)
    (rw c.in-Some-2.is at c.in_ok-bytes.ensures.found) (rw c.in-Some-2.is at c.in_ok-bytes.ensures.proper)
    (λ star. true≢false (sym (c.is_star.ensures.1 star) ∙ c.if-not-is_star.true))
