use Rattle.verify80_states.proofs.Names.{◌∙◌, sym, subst, Flow, State, Covers, FitsBy, state_after}
use Rattle.verify80_states.proofs.fitting.fitting.Fit.state_fits.Goals as goal

pub returns-in-JumpsToHl : goal.returns-in-JumpsToHl
returns-in-JumpsToHl c is =
    let fit = c.args.self.now in
    let found = c.args.found in
    subst (λ (w : Flow). FitsBy c.args.targets.now fit.variables.now fit.table.now (λ taken t. state_after fit.code.now found.instr taken found.next t) c.args.placed.state found.next w)
    (sym c.in-JumpsToHl.is ∙ c.flow.ensures)
    (λ to there within. subst (λ (s : State). Covers fit.variables.now fit.table.now to s) c.after.ensures (c.has_at_each.ensures is to there within))
