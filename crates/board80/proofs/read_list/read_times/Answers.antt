use Rattle.std.proofs.Common.{◌∷◌, [], arith}
use Rattle.std.specs.Prelude.{Some}
use Rattle.std.proofs.lemmas.Bool.Decides.{Decides-eqb}
use Rattle.std.proofs.lemmas.Slice.Eq.{strip_prefix_is}
use Rattle.board80.proofs.ReadLemmas.{no_times_small}
use Rattle.board80.proofs.read_list.read_times.Goals as goal

pub returns-then-count-lt2-clause-none : goal.returns-then-count-lt2-clause-none
returns-then-count-lt2-clause-none c =
    no_times_small c.args.text.now c.in-Some.digits.now c.in-Some-2.count
    (strip_prefix_is Decides-eqb c.args.text.now (42 ∷ []) (Some c.in-Some.digits) c.in-Some.ensures.cases)
    (rw c.in-Some-2.is at c.in_ok-count.ensures.spelled) (omega arith) (omega arith)
