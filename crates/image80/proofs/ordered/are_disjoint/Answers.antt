use Rattle.std.proofs.Common.{◌∷◌, ◌++◌, refl, arith}
use Rattle.image80.proofs.DisjointLemmas.{IsGathered, gathered_with_stack, gathered_without_stack, decides_disjoint}
use Rattle.image80.proofs.ordered.are_disjoint.Goals as goal
use Rattle.image80.proofs.ordered.are_disjoint.Goals.{then-stack-ne0+in_ok-push, else-stack-ne0}

pub returns : goal.returns
returns c =
    let gathered : IsGathered (c.args.code.now ++ c.args.stack ∷ c.args.data_ranges.now) c.extend_from_slice.new.self.items =
    elim c.if-stack-ne0.branch [
      | then-stack-ne0+in_ok-push w ↦ gathered_with_stack c.args.code.now c.args.stack c.args.data_ranges.now _ c.requires.code_filled c.requires.data_filled (omega arith) (rw (c.in_ok-extend_from_slice.ensures.items, w.ranges-is, w.in_ok-push.ensures.items, c.in_ok-ranges.ensures.items) refl)
      | else-stack-ne0 w ↦ gathered_without_stack c.args.code.now c.args.stack c.args.data_ranges.now _ c.requires.code_filled c.requires.data_filled (omega arith) (rw (c.in_ok-extend_from_slice.ensures.items, w.ranges-is, c.in_ok-ranges.ensures.items) refl)
    ] in
    decides_disjoint (c.args.code.now ++ c.args.stack ∷ c.args.data_ranges.now) c.extend_from_slice.new.self.items _ _ gathered.held_same gathered.all_filled c.sort.ensures.same c.sort.ensures.by_first (rw (← c.deref.ensures.value) c.each_ends_by_the_next.ensures)
