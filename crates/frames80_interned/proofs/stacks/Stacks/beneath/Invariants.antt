use Rattle.std.proofs.Common.{◌<◌, ◌≤◌, length}
use Rattle.frames80_interned.specs.Stacks.{words_at, LieBeneath}
use Rattle.frames80_interned.proofs.stacks.Stacks.beneath.Given as goal

abbrev pub invariant-loop-link : goal.invariant-loop-link
invariant-loop-link l = record {
  there : l.beneath < length l.self;
  lies : LieBeneath (words_at l.self l.number) (words_at l.self l.beneath);
  enough : l.left ≤ length (words_at l.self l.beneath);
}

abbrev pub decreases-loop-link : goal.decreases-loop-link
decreases-loop-link l = l.beneath
