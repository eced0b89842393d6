use Rattle.std.proofs.Common.{rules, sym, ◌∙◌}
use Rattle.verify80_cases.specs.Suggested.IsCount.{counted}
use Rattle.verify80_cases.proofs.keys.limit_of.Goals as goal

pub returns-in-Some-loaded_count-clause-is : goal.returns-in-Some-loaded_count-clause-is
returns-in-Some-loaded_count-clause-is c =
    counted c.in-Some.mvi (c.leads_to.ensures (search rules)) (sym c.loaded_count.ensures.is ∙ c.in-Some-loaded_count.is)
