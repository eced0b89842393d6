use Rattle.std.specs.Prelude.{◌≡◌, ◌+◌, ◌-◌, ◌≤◌, ◌<◌, ℕ, true}
use Rattle.verify80_cases.specs.Marks.{marked}
use Rattle.verify80_suggest.proofs.ranges.run_from.Given as goal

abbrev pub invariant-loop-run : goal.invariant-loop-run
invariant-loop-run l = record {
  inside : l.at + l.run ≤ 65536;
  few : l.run ≤ 65535;
  all : (address : ℕ) → l.at ≤ address → address < l.at + l.run → marked l.marks address ≡ true;
}

abbrev pub decreases-loop-run : goal.decreases-loop-run
decreases-loop-run l = 65535 - l.run
