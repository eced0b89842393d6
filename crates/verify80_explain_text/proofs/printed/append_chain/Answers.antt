use Rattle.verify80_explain_text.specs.Printed.{chain}
use Rattle.verify80_explain_text.proofs.TextLemmas.{on_ok}
use Rattle.verify80_explain_text.proofs.printed.append_chain.Goals as goal

pub returns-in-Ok : goal.returns-in-Ok
returns-in-Ok c = on_ok _ _ c.append_calls.result (λ grown. chain c.in-Ok.chain c.in-Ok.ensures.chain grown) c.append_calls.ensures
