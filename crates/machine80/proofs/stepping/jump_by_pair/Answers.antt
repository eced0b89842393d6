use Rattle.std.specs.Prelude.{◌≡◌, true}
use Rattle.std.proofs.Common.{◌∙◌, ap, sym, rules}
use Rattle.image80.specs.Regions.{targets_at}
use Rattle.machine80.specs.Step.{jump_end}
use Rattle.machine80.proofs.TargetLemmas.{jump_goes}
use Rattle.machine80.proofs.stepping.jump_by_pair.Goals as goal
use Rattle.machine80.proofs.stepping.jump_by_pair.Goals.{in-Some+else-not-is_target, in_default}

pub returns-clause-end : goal.returns-clause-end
returns-clause-end c =
    rw (← c.hl-to.ensures)
    (elim c.match-targets.branch [
      | in-Some+else-not-is_target w ↦
          let found : w.is_target.result ≡ true = search rules in
          jump_goes (targets_at c.args.regions.now c.args.cpu.now.pc) w.in-Some.targets.now c.hl-to.result w.in-Some.ensures.declared (sym w.is_target.ensures ∙ found)
      | in_default w ↦ sym (ap (λ o. jump_end o c.hl-to.result) w.in_default.ensures.none)
    ])
