-- the bytes so far
use Rattle.std.proofs.Common.{◌≤◌, ◌%◌, take}
use Rattle.std.specs.List.{AllByRecursion, Contains}
use Rattle.rom80_find.proofs.fitting.least_of.Given as goal

abbrev pub invariant-loop-byte : goal.invariant-loop-byte
invariant-loop-byte l = record {
  has : Contains l.bytes l.least;
  least : AllByRecursion (λ b. l.least.addend % 256 ≤ b.addend % 256) (take l.byte-index l.bytes);
}
