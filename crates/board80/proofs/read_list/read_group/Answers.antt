use Rattle.std.proofs.Common.{◌∷◌, []}
use Rattle.std.specs.Prelude.{None}
use Rattle.std.proofs.lemmas.Bool.Decides.{Decides-eqb}
use Rattle.std.proofs.lemmas.Slice.Eq.{strip_prefix_is}
use Rattle.board80.proofs.ReadLemmas.{no_group_bracket}
use Rattle.board80.proofs.read_list.read_group.Goals as goal

pub returns-in_default-strip_prefix-clause-none : goal.returns-in_default-strip_prefix-clause-none
returns-in_default-strip_prefix-clause-none c =
    no_group_bracket c.args.text.now c.in-Some.after.now c.in_ok-others.after.now c.in-Some.first c.in_ok-others.others.items c.in-Some.ensures.found c.in-Some.ensures.byte
    c.in_ok-others.ensures.found c.in_ok-others.ensures.bytes c.in_ok-others.ensures.ended
    (strip_prefix_is Decides-eqb c.in_ok-others.after.now (41 ∷ []) None c.in_default-strip_prefix.ensures.cases)
