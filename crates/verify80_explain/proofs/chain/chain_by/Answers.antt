use Rattle.std.proofs.Common.{rules, w64, ◌≡◌, pos, reverse, sym, subst}
use Rattle.std.specs.Prelude.{◌+ℤ◌, IfSome}
use Rattle.std.proofs.lemmas.Int.{to_z-of_z}
use mir.Val.{SFits, to_z}
use Rattle.frames80.specs.declared.procedure.Procedure.TheVariants.{Entry}
use Rattle.verify80_explain.specs.Chains.{CallsAt, IsChain}
use Rattle.verify80_explain.proofs.ChainLemmas.{chain-before}
use Rattle.verify80_explain.proofs.chain.chain_by.Goals as goal

pub loop-number-preserved : goal.loop-number-preserved
loop-number-preserved g c =
    let code = g.C.Code.code c.args.program.now in
    let call = c.in-Some-2.call in
    let last = c.in-Some.last in
    let more = c.in-Some-depth_below_call.more in
    let fits : SFits w64 more = search rules in
    let of : c.loop-number.procedure ≡ Entry call.target = search rules in
    let at = subst (λ o. IfSome o (CallsAt code)) c.in-Some-2.is c.in_ok-call.ensures in
    let depth_fits : SFits w64 call.depth = search rules in
    let depth = to_z-of_z w64 call.depth depth_fits in
    let below = to_z w64 c.loop-number.sum-bits in
    let through = c.in-Some-depth_below_call.ensures in
    let is : more ≡ (call.depth +ℤ pos 2) +ℤ below = cc in
    subst (λ s. IsChain code call.caller (reverse c.push.new.self.items) last s) (sym (to_z-of_z w64 more fits))
    (subst (λ calls. IsChain code call.caller (reverse calls) last more) (sym c.in_ok-push.ensures.items)
    (chain-before code c.loop-number.procedure c.loop-number.calls.items last below more call c.loop-number.invariant at of is))
