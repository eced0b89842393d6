use Rattle.verify80_explain.proofs.laws.what_is_shown_holds.Goals as goal

pub returns : goal.returns
returns c = λ code refusal shown s. s.fault
