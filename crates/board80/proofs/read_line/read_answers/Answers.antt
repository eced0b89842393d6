use Rattle.std.specs.Prelude.{Some, codes}
use Rattle.std.proofs.lemmas.Bool.Decides.{Decides-eqb}
use Rattle.std.proofs.lemmas.Slice.Eq.{strip_prefix_is}
use Rattle.board80.proofs.ReadLemmas.{no_answers}
use Rattle.board80.proofs.read_line.read_answers.Goals as goal

pub returns-in-None-2-clause-none : goal.returns-in-None-2-clause-none
returns-in-None-2-clause-none c =
    no_answers c.args.text.now c.in-Some.table.now (strip_prefix_is Decides-eqb c.args.text.now (codes " BY ") (Some c.in-Some.table) c.in-Some.ensures.cases)
    (rw c.in-None-2.is at c.in_ok-table.ensures.none)
