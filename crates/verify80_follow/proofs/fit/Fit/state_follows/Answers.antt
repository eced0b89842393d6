use Rattle.std.specs.Prelude.{◌≡◌, true}
use Rattle.std.proofs.Common.{refl}
use Rattle.decode80.specs.Facts.{flow}
use Rattle.verify80_follow.specs.Follows.{FollowsBy, StateFollows}
use Rattle.verify80_follow.proofs.FitLemmas.{ok_maps}
use Rattle.verify80_follow.specs.Tables.{fitting_of}
use Rattle.verify80_follow.proofs.fit.Fit.state_follows.Goals as goal

pub returns : goal.returns
returns c =
    let fit = c.args.self.now in
    let state = c.args.state.now in
    let found = c.in-Some.executed.found in
    ok_maps c.follows_by.result (λ f. f ≡ true → FollowsBy fit.bounds (fitting_of fit) state found (flow found.instr))
    (λ f. f ≡ true → StateFollows fit.bounds (fitting_of fit) state)
    (λ f follows is. record {
      stands = record { found = found; executed = c.in-Some.ensures.executed; may = c.if-not-may_stand.ensures refl };
      follows = follows is;
    }) c.follows_by.ensures
