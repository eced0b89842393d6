use Rattle.verify80_explain_text.specs.Printed.{ways}
use Rattle.verify80_explain_text.proofs.TextLemmas.{on_ok}
use Rattle.verify80_explain_text.proofs.printed.append_explanation.Goals as goal

pub returns-in-Ok : goal.returns-in-Ok
returns-in-Ok c = on_ok _ _ c.append_ways.result (λ grown. ways c.in-Ok.explanation c.in-Ok.ensures.shown grown) c.append_ways.ensures
