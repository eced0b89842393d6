use Rattle.std.specs.Prelude.{◌≡◌, ◌-◌, ◌≤◌, ◌<◌, ◌||◌, ℕ, length}
use Rattle.verify80_suggest.specs.Bytes.{in_span}
use Rattle.verify80_cases.specs.Marks.{marked}
use Rattle.verify80_suggest.proofs.bytes.mark_span.Given as goal

abbrev pub invariant-loop-address : goal.invariant-loop-address
invariant-loop-address l = record {
  size : length l.marks.items ≡ 65536;
  from : l.fn.first ≤ l.address;
  inside : l.address ≤ 65536;
  within : l.address - l.fn.first ≤ l.fn.count;
  each : (address : ℕ) → address < 65536 → marked l.marks.items address ≡ (marked l.fn.marks.items address || in_span l.fn.first (l.address - l.fn.first) address);
}

abbrev pub decreases-loop-address : goal.decreases-loop-address
decreases-loop-address l = 65536 - l.address
