use Rattle.std.proofs.Common.{◌∙◌, ap, sym}
use Rattle.std.specs.Prelude.{option_copied}
use Rattle.image80_text.proofs.TableLemmas.{within_code}
use Rattle.image80_text.proofs.table.PublicTable.nearest.Goals as goal

pub returns-in-Some-clause-which : goal.returns-in-Some-clause-which
returns-in-Some-clause-which c =
    sym (ap option_copied c.in-Some.is)
    ∙ c.nearest_within.ensures.which ∙ within_code c.args.code.now c.args.self.now c.args.address _ c.range_of.ensures

pub returns-in-None-clause-which : goal.returns-in-None-clause-which
returns-in-None-clause-which c =
    sym (ap option_copied c.in-None.is)
    ∙ c.nearest_within.ensures.which ∙ within_code c.args.code.now c.args.self.now c.args.address _ c.range_of.ensures
