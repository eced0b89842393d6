use Rattle.std.proofs.Common.{ap, ◌∙◌}
use Rattle.image80.specs.RegionsText.{stack_range}
use Rattle.image80.proofs.TextLemmas.{first_stack, no_stack_more}
use Rattle.image80.proofs.read.stack_of.Goals as goal

pub returns-in-Some : goal.returns-in-Some
returns-in-Some c = first_stack c.args.entries.now c.loop-entry.entry-index c.entry-item.result c.in-Some.range c.loop-entry-test.true c.loop-entry.invariant (c.in-Some.ensures ∙ ap stack_range c.entry-item.is)

pub loop-entry-preserved : goal.loop-entry-preserved
loop-entry-preserved c = no_stack_more c.args.entries.now c.loop-entry.entry-index c.entry-item.result c.loop-entry-test.true c.loop-entry.invariant (c.in_default.ensures ∙ ap stack_range c.entry-item.is)
