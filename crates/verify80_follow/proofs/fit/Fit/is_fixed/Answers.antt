use Rattle.std.specs.Prelude.{◌≡◌, Bool, false, not, true}
use Rattle.std.proofs.Common.{refl, subst, sym, ◌∙◌}
use Rattle.decode80.specs.declared.fetching.Fetched.{Fetched}
use Rattle.image80.specs.Image.{memory_of}
use Rattle.verify80.specs.LookLaws.{fetch_at}
use Rattle.verify80_follow.specs.Follows.{uses_pointer}
use Rattle.verify80_follow.proofs.PartLemmas.{same_ok}
use Rattle.verify80_follow.proofs.fit.Fit.is_fixed.Goals as goal

not_true : (b : Bool) → not b ≡ true → b ≡ false
not_true true is = cc
not_true false is = refl

pub returns-in-Ok : goal.returns-in-Ok
returns-in-Ok c is found there =
    let program = c.args.self.now.program.now in
    subst (λ (f : Fetched). uses_pointer f.instr ≡ false)
    (same_ok (fetch_at program.regions (memory_of program.chunks) c.args.state.now.at) c.in-Ok.found found (sym c.fetch.ensures ∙ c.in-Ok.is) there)
    (sym c.uses_pointer.ensures ∙ not_true c.uses_pointer.result is)
