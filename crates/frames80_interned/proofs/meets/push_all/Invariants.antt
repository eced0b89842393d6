use Rattle.std.proofs.Common.{◌≡◌, ◌<◌, ◌++◌, length, vec_len}
use Rattle.frames80_interned.specs.Stacks.{words_at, StacksStay}
use Rattle.frames80_interned.proofs.meets.push_all.Given as goal

abbrev pub invariant-loop-word : goal.invariant-loop-word
invariant-loop-word l = record {
  there : l.number < length l.stacks;
  words : l.left.items ++ words_at l.stacks l.number ≡ l.fn.words.items ++ words_at l.fn.stacks l.fn.below;
  stays : StacksStay l.fn.stacks l.stacks;
}

abbrev pub decreases-loop-word : goal.decreases-loop-word
decreases-loop-word l = vec_len l.left
