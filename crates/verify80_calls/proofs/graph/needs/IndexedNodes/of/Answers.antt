use Rattle.std.proofs.Common.{rules, ◌∙◌}
use Rattle.verify80_calls.proofs.graph.needs.IndexedNodes.of.Goals as goal

pub set_bounds-requires : goal.set_bounds-requires
set_bounds-requires c = c.deref_mut.ensures.value ∙ c.in_ok-bounds.ensures.items_if_clones_equal (λ y same. search rules)
