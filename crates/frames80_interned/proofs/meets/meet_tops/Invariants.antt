use Rattle.std.proofs.Common.{◌<◌, length}
use Rattle.frames80_interned.specs.Stacks.{words_at}
use Rattle.frames80_interned.specs.Meets.{IsWalk}
use Rattle.frames80_interned.proofs.meets.meet_tops.Given as goal

abbrev pub invariant-loop-link : goal.invariant-loop-link
invariant-loop-link l = record {
  one : l.left.one < length l.stacks;
  other : l.left.other < length l.stacks;
  walk : IsWalk (words_at l.stacks l.fn.pair.one) (words_at l.stacks l.fn.pair.other) l.words.items l.changed (words_at l.stacks l.left.one) (words_at l.stacks l.left.other);
}

abbrev pub decreases-loop-link : goal.decreases-loop-link
decreases-loop-link l = l.left.one
