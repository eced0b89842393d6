use Rattle.std.specs.Prelude.{◌≡◌, Some, true}
use Rattle.std.proofs.Common.{ap, refl, subst, sym, ◌∙◌}
use Rattle.decode80.specs.{Facts.flow}
use Rattle.verify80_states.specs.Known.{nothing_known}
use Rattle.verify80_follow.specs.declared.held.Beside.{Beside}
use Rattle.verify80_follow.specs.Follows.{Has, PassesBy, StepsOver, called}
use Rattle.verify80_follow.proofs.FitLemmas.{ok_maps}
use Rattle.verify80_follow.specs.Tables.{fitting_of}
use Rattle.verify80_follow.proofs.fit.Fit.steps_over.Goals as goal

pub returns : goal.returns
returns c =
    let fit = c.args.self.now in
    let state = c.args.state.now in
    let found = c.in-Some.executed.found in
    let stack = c.in-Some-bytes.stack.now in
    let summary = c.in-Some-summary.summary.now in
    ok_maps c.passes_by.result (λ p. p ≡ true → PassesBy fit.bounds (fitting_of fit) state found (flow found.instr))
    (λ p. p ≡ true → StepsOver fit.bounds (fitting_of fit) state)
    (λ p passes is. record {
      stands = record { found = found; executed = c.in-Some.ensures.executed; may = c.if-not-may_stand.ensures refl };
      summary = summary;
      among = c.in-Some-summary.ensures;
      calls = ap called (sym c.flow.ensures) ∙ c.if-not-calls.ensures refl;
      stack = stack;
      is = sym c.in-Some-bytes.ensures;
      room = c.if-not-has_room_for.ensures refl;
      behind = subst (λ (b : Beside). Has fit.table.now found.next nothing_known b (Some stack)) c.behind_call-behind.ensures (c.if-not-has.ensures refl);
      passes = passes is;
    }) c.passes_by.ensures
