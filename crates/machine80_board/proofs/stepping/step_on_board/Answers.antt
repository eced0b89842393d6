use Rattle.std.proofs.Common.{◌≡◌, Some, sym, subst, refl}
use Rattle.machine80.specs.Step.{Machine, fetch}
use Rattle.machine80_board.proofs.RunLemmas.{ok_then}
use Rattle.machine80_board.proofs.stepping.step_on_board.Goals as goal

pub returns-in-In-clause-turned : goal.returns-in-In-clause-turned
returns-in-In-clause-turned c = λ s now.
    c.take_input.ensures.turned s c.in-Some.found now
    (subst (λ (m : Machine). fetch c.args.rules.now.regions.now m.memory m.cpu.pc ≡ Some c.in-Some.found) (sym now.is) (sym c.in-Some.ensures)) c.in-In.is refl

pub returns-in-Out-clause-turned : goal.returns-in-Out-clause-turned
returns-in-Out-clause-turned c = ok_then c.put_out.result (λ ending h s now.
    h s c.in-Some.found now
    (subst (λ (m : Machine). fetch c.args.rules.now.regions.now m.memory m.cpu.pc ≡ Some c.in-Some.found) (sym now.is) (sym c.in-Some.ensures)) c.in-Out.is refl) c.put_out.ensures.turned
