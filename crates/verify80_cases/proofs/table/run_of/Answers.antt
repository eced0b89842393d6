use Rattle.std.proofs.Common.{refl, sym, ◌∙◌}
use Rattle.verify80_cases.proofs.table.run_of.Goals as goal

pub returns-clause-is : goal.returns-clause-is
returns-clause-is c = record { kind = refl; loaded = sym c.loaded_word.ensures ∙ c.in_ok-first.was; is_limit = c.limit_of.ensures.is }
