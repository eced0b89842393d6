use Rattle.verify80_states.proofs.Names.{Option, sym, subst, State, Covers, CoversAfter, state_after}
use Rattle.verify80_states.proofs.fitting.fitting.Fit.covers_after.Goals as goal

pub returns-in-Some : goal.returns-in-Some
returns-in-Some c is =
    let fit = c.args.self.now in
    let found = c.args.found in
    subst (λ (o : Option State). CoversAfter fit.variables.now fit.table.now c.args.to (λ t. state_after fit.code.now found.instr c.args.taken found.next t) o) (sym c.in-Some.is)
    (subst (λ (s : State). Covers fit.variables.now fit.table.now c.args.to s) c.after.ensures (c.covers.ensures is))
