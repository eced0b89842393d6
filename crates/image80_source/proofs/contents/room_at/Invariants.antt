use Rattle.std.proofs.Common.{◌≡◌, ◌+◌, ◌<◌, ◌≤◌, ℕ}
use Rattle.std.specs.Prelude.{slice_index}
use Rattle.image80_source.proofs.contents.room_at.Given as goal

abbrev pub invariant-loop-offset : goal.invariant-loop-offset
invariant-loop-offset l = record {
  marked : (k : ℕ) → k < l.offset → slice_index l.contents.covered.now (l.at + k) ≡ 1;
  within : l.at + l.offset ≤ 65536;
}
