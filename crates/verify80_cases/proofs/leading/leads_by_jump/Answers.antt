use Rattle.std.proofs.Common.{rules, sym, ◌∙◌}
use Rattle.verify80_cases.specs.Standing.LeadsTo.{jumps}
use Rattle.verify80_cases.proofs.leading.leads_by_jump.Goals as goal

pub returns : goal.returns
returns c = λ is.
    jumps c.args.jump c.in-Some.to (c.stands_before.ensures (search rules)) (search rules) (sym c.jumps_to.ensures ∙ c.in-Some.is) (c.comes_to.ensures is)
