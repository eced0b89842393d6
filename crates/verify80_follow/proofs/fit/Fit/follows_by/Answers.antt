use Rattle.std.specs.Prelude.{◌≡◌, Bool, true, IfOk}
use Rattle.std.proofs.Common.{subst, sym, ◌∙◌}
use Rattle.decode80.specs.declared.flow.Flow.{Flow}
use Rattle.verify80_follow.specs.Follows.{FollowsBy, JumpsBy}
use Rattle.verify80_follow.specs.Tables.{fitting_of}
use Rattle.verify80_follow.proofs.fit.Fit.follows_by.Goals as goal

pub returns-in-JumpsToHl : goal.returns-in-JumpsToHl
returns-in-JumpsToHl c =
    let fit = c.args.self.now in
    let flows = sym c.in-JumpsToHl.is ∙ c.flow.ensures in
    subst (λ (w : Flow). IfOk c.jumps_to_each.result (λ follows. follows ≡ true → FollowsBy fit.bounds (fitting_of fit) c.args.here.state.now c.args.here.found w)) flows
    (subst (λ (b : Bool). IfOk c.jumps_to_each.result (λ jumps. jumps ≡ true → JumpsBy fit.bounds (fitting_of fit) c.args.here.state.now c.args.here.found b)) (sym (c.requires.declared (sym flows) ∙ c.if-by_targets.true)) c.jumps_to_each.ensures)

pub returns-in-Halts : goal.returns-in-Halts
returns-in-Halts c =
    let fit = c.args.self.now in
    subst (λ (w : Flow). c.leaves_halt.result ≡ true → FollowsBy fit.bounds (fitting_of fit) c.args.here.state.now c.args.here.found w) (sym c.in-Halts.is ∙ c.flow.ensures) c.leaves_halt.ensures
