use Rattle.std.specs.Prelude.{◌≡◌}
use Rattle.verify80_cases.proofs.reading.Reader.take.Given as goal

abbrev pub invariant-loop-place : goal.invariant-loop-place
invariant-loop-place l = record {
  same : l.self.unfinished.items ≡ l.fn.self.unfinished.items;
}
