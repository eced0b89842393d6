use Rattle.std.specs.Prelude.{◌≡◌, true}
use Rattle.std.proofs.Common.{ap, refl, sym, ◌∙◌}
use Rattle.decode80.specs.Facts.{flow}
use Rattle.verify80_follow.specs.Follows.{PassesBy, ReturnsBack, is_return}
use Rattle.verify80_follow.proofs.FitLemmas.{ok_maps}
use Rattle.verify80_follow.specs.Tables.{fitting_of}
use Rattle.verify80_follow.proofs.fit.Fit.returns_back.Goals as goal

pub returns : goal.returns
returns c =
    let fit = c.args.self.now in
    let state = c.args.state.now in
    let found = c.in-Some.executed.found in
    ok_maps c.passes_by.result (λ p. p ≡ true → PassesBy fit.bounds (fitting_of fit) state found (flow found.instr))
    (λ p. p ≡ true → ReturnsBack fit.bounds (fitting_of fit) state)
    (λ p passes is. record {
      stands = record { found = found; executed = c.in-Some.ensures.executed; may = c.if-not-may_stand.ensures refl };
      returns = ap is_return (sym c.flow.ensures) ∙ sym c.is_return.ensures ∙ c.if-not-is_return.false;
      back = c.if-not-is_last.ensures.back refl;
      alone = c.if-not-is_last.ensures.alone refl;
      passes = passes is;
    }) c.passes_by.ensures
