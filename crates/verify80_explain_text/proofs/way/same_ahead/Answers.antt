use Rattle.std.proofs.Common.{sym}
use Rattle.verify80_explain_text.specs.Explained.{has_other_frame}
use Rattle.verify80_explain_text.proofs.RunLemmas.{all_counted}
use Rattle.verify80_explain_text.proofs.way.same_ahead.Goals as goal

pub returns-in-None-clause-value : goal.returns-in-None-clause-value
returns-in-None-clause-value c = all_counted (has_other_frame c.args.frame.now) c.args.way.now (sym c.in-None.ensures)
