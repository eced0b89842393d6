use Rattle.std.specs.Prelude.{List}
use Rattle.std.proofs.Common.{subst}
use Rattle.verify80_explain.specs.declared.reaching.ReachedPoint.{ReachedPoint}
use Rattle.verify80_explain.specs.Reaching.{AreRefusalsOf}
use Rattle.plm80_programs.proofs.reached.Unproved.of.Goals as goal

pub returns : goal.returns
returns c = record {
  reached = c.in_ok-reach.ensures;
  of_points = c.in_ok-refusals.refusals.items;
  are_of_points = subst (λ (points : List ReachedPoint). AreRefusalsOf points c.in_ok-refusals.refusals.items) c.deref.ensures.value
      c.in_ok-refusals.ensures;
  refusals = c.in_ok-add_unless_among.ensures;
}
