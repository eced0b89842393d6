use Rattle.verify80_states.proofs.Names.{◌∙◌, refl, sym, subst, Located, Areas, Variable, anything, is_marked, Has, returns_of, AllFit, get_or}
use Rattle.verify80_states.proofs.{CellLemmas.known_quieter, VariableLemmas.tested_of, TableLemmas.fits_program}
use Rattle.verify80_states.proofs.fitting.fitting.Fit.fits.Goals as goal

pub returns : goal.returns
returns c fitting quiet marked in_data =
    let image = c.args.image.now in
    let it = c.args.self.now in
    let returns = returns_of it.returns.now in
    let start : Has it.variables.now it.table.now image.start anything =
    subst (λ (i : Located). Has it.variables.now it.table.now i.start anything) c.image.view_is (c.if-not-has.ensures refl) in
    let fit : AllFit it.regions.now it.code.now returns it.reached.now it.variables.now it.table.now = record { entries = c.all_fit.ensures fitting; accounts = c.if-not-all_account.ensures refl } in
    let fit_here = subst (λ (r : Areas). AllFit r it.code.now returns it.reached.now it.variables.now it.table.now) c.requires.regions fit in
    c.fitting_states_hold.ensures.kept image quiet it.code.now returns it.variables.now it.table.now c.requires.rules c.requires.code in_data
    (fits_program image quiet it.reached.now it.code.now returns it.variables.now it.table.now c.requires.reached c.requires.whole start fit_here (λ k d inside. known_quieter (is_marked c.args.quiet.now) quiet (get_or it.table.now k d).state.known marked (c.if-not-all_know_quiet.ensures refl k d inside))
    (λ number v there. marked v.at (tested_of (λ (x : Variable). is_marked c.args.quiet.now x.at) it.variables.now number v (sym c.are_quiet.ensures ∙ c.if-not-are_quiet.false) there)))
