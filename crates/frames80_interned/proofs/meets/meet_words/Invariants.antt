use Rattle.frames80_interned.specs.Stacks.{StacksStay}
use Rattle.frames80_interned.proofs.meets.meet_words.Given as goal

abbrev pub invariant-loop-depth : goal.invariant-loop-depth
invariant-loop-depth l = StacksStay l.fn.stacks l.stacks

abbrev pub decreases-loop-depth : goal.decreases-loop-depth
decreases-loop-depth l = l.depth
