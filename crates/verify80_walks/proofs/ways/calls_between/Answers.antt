use Rattle.std.proofs.Common.{rules, ◌≡◌, sym, subst}
use Rattle.std.specs.Prelude.{IfSome}
use Rattle.frames80.specs.declared.procedure.Procedure.TheVariants.{Entry}
use Rattle.verify80_walks.specs.Ways.{IsCalled, Lead}
use Rattle.verify80_walks.proofs.WayLemmas.{lead-push}
use Rattle.verify80_walks.proofs.ways.calls_between.Goals as goal

pub loop-number-preserved : goal.loop-number-preserved
loop-number-preserved g c =
    let code = g.C.Code.code c.args.program.now in
    let call = c.in-Some.call in
    let of : call.caller ≡ c.loop-number.at = search rules in
    let called = subst (λ o. IfSome o (IsCalled code)) c.in-Some.is c.in_ok-call.ensures in
    subst (λ calls. Lead code c.args.from calls (Entry call.target)) (sym c.in_ok-push.ensures.items) (lead-push code c.args.from c.loop-number.calls.items c.loop-number.at call c.loop-number.invariant of called)
