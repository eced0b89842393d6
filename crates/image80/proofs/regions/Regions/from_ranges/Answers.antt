use Rattle.std.proofs.Common.{◌≡◌, true}
use Rattle.image80.proofs.regions.Regions.from_ranges.Goals as goal

pub returns-then-not-branch-clause-overlap : goal.returns-then-not-branch-clause-overlap
returns-then-not-branch-clause-overlap c = λ disjoint.
    let said : c.in_ok-are_disjoint.field-0 ≡ true = c.in_ok-are_disjoint.ensures.1 (rw (c.deref.ensures.value, c.deref-2.ensures.value) disjoint) in
    cc

pub from_disjoint-requires-clause-disjoint : goal.from_disjoint-requires-clause-disjoint
from_disjoint-requires-clause-disjoint c = rw (← c.deref.ensures.value, ← c.deref-2.ensures.value) (c.in_ok-are_disjoint.ensures.0 c.if-not-branch.false)
