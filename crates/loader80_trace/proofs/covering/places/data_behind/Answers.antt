use Rattle.std.proofs.Common.{◌∙◌, sym}
use Rattle.loader80_trace.specs.Cover.{is_data}
use Rattle.loader80_trace.proofs.CoverLemmas.{before_no, before_yes}
use Rattle.loader80_trace.proofs.covering.places.data_behind.Goals as goal

pub returns-then-is_data-clause-before : goal.returns-then-is_data-clause-before
returns-then-is_data-clause-before c = before_yes (is_data c.args.layout.now.regions.now c.args.layout.now.reached.now) c.args.at c.args.before c.requires.before (sym c.is_data.ensures.value ∙ c.if-is_data.true)

pub returns-clause-before : goal.returns-clause-before
returns-clause-before c = before_no (is_data c.args.layout.now.regions.now c.args.layout.now.reached.now) c.args.at (sym c.is_data.ensures.value ∙ c.if-is_data.false)
