use Rattle.verify80_explain.proofs.further.show_further.Goals as goal

pub returns-in_err-are_shown : goal.returns-in_err-are_shown
returns-in_err-are_shown c = λ all. c.show_on.ensures (c.loop-candidate.invariant all)

pub loop-candidate-preserved-then-not-contains : goal.loop-candidate-preserved-then-not-contains
loop-candidate-preserved-then-not-contains c = λ all. c.show_on.ensures (c.loop-candidate.invariant all)
