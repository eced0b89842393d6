use Rattle.std.proofs.Common.{rules, ◌∙◌}
use Rattle.verify80_calls.proofs.graph.chain.MarkedChain.of.Goals as goal

pub set_marks-requires : goal.set_marks-requires
set_marks-requires c = c.deref_mut.ensures.value ∙ c.in_ok-marks.ensures.items_if_clones_equal (λ y same. search rules)
