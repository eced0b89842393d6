use Rattle.std.specs.Prelude.{◌≡◌, ◌-◌, ◌≤◌, ◌<◌, ℕ, false}
use Rattle.verify80_cases.specs.Marks.{marked}
use Rattle.verify80_suggest.proofs.stack.count_free.Given as goal

abbrev pub invariant-loop-free : goal.invariant-loop-free
invariant-loop-free l = record {
  inside : l.free ≤ l.«end»;
  some : l.free ≤ 65535;
  few : l.free ≤ l.wanted;
  free : (k : ℕ) → k < l.free → marked l.taken (l.«end» - 1 - k) ≡ false;
}

abbrev pub decreases-loop-free : goal.decreases-loop-free
decreases-loop-free l = 65535 - l.free
