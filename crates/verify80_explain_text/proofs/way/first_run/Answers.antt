use Rattle.verify80_explain_text.proofs.RunLemmas.{first_is}
use Rattle.verify80_explain_text.proofs.way.first_run.Goals as goal

pub returns-clause-run : goal.returns-clause-run
returns-clause-run c = first_is c.args.way.now c.index-way-0.result c.same_ahead.result c.requires c.same_ahead.ensures.value
