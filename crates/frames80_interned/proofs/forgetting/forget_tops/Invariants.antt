use Rattle.frames80_interned.specs.Stacks.{words_at}
use Rattle.frames80_interned.specs.Lesser.{IsLesserTop}
use Rattle.frames80_interned.proofs.forgetting.forget_tops.Given as goal

abbrev pub invariant-loop-link : goal.invariant-loop-link
invariant-loop-link l = IsLesserTop l.stacks (words_at l.stacks l.number) l.words.items l.rest

abbrev pub decreases-loop-link : goal.decreases-loop-link
decreases-loop-link l = l.rest
