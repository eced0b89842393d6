use Rattle.verify80_states.proofs.Names.{◌≡◌, ◌∙◌, ℕ, List, Some, refl, sym, subst, Fetched, declared_targets, EntryFits, FitsAt, returns_of}
use Rattle.verify80_states.proofs.fitting.fitting.Fit.placed_fits.Goals as goal

pub returns-else-not-are_steady : goal.returns-else-not-are_steady
returns-else-not-are_steady c is = record {
  fits = λ found there.
      let fit = c.args.self.now in
      let placed = c.args.placed in
      let same : c.in-Some.found ≡ found = (let e : Some c.in-Some.found ≡ Some found = sym c.in-Some.is ∙ c.entry_at.ensures ∙ there in cc e) in
      subst (λ (f : Fetched). EntryFits fit.code.now (returns_of fit.returns.now) (declared_targets fit.regions.now placed.at) fit.variables.now fit.table.now placed.at placed.state f) same
      (record {
        covered = subst (λ (targets : List ℕ). FitsAt fit.code.now targets fit.variables.now fit.table.now placed.state c.in-Some.found) c.targets_at.ensures (c.if-not-state_fits.ensures refl);
        calls = record { behind = c.if-not-keeps_behind.ensures refl; known = c.keeps_returns.ensures is };
        steady = sym c.are_steady.ensures ∙ c.if-not-are_steady.false;
      });
}
