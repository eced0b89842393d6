use Rattle.std.proofs.Common.{Some, ap, sym, ◌∙◌}
use Rattle.verify80_cases.specs.Reading.IsLimitOf.{compared}
use Rattle.verify80_cases.proofs.table.limit_of.Goals as goal

pub returns-in-Some-compared_byte-clause-is : goal.returns-in-Some-compared_byte-clause-is
returns-in-Some-compared_byte-clause-is c =
    compared c.in-Some.at c.in-Some.is (sym c.compared_byte.ensures ∙ c.in-Some-compared_byte.is ∙ ap Some (sym c.from.ensures))
