use Rattle.std.specs.Prelude.{[], All}
use Rattle.std.proofs.Common.{sym, subst}
use Rattle.std.proofs.lemmas.List.Elements.{All-push}
use Rattle.verify80.specs.Looking.{code_of}
use Rattle.verify80_explain.specs.declared.reaching.ReachedPoint.{ReachedPoint}
use Rattle.verify80_explain.specs.Reaching.{IsReachedAt}
use Rattle.verify80_explain.proofs.reaching.stand_at.Goals as goal

pub loop-number-preserved : goal.loop-number-preserved
loop-number-preserved g c =
    let P : ReachedPoint → Type 0 = IsReachedAt (code_of c.args.plain.now) (g.C.Code.code c.args.program.now) in
    subst (All P) (sym c.in_ok-push.ensures.items) (All-push P c.loop-number.found.items _ c.loop-number.invariant c.in_ok-point.ensures)
