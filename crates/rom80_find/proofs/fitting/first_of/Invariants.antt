-- the bytes so far
use Rattle.std.proofs.Common.{◌≢◌, take}
use Rattle.std.specs.List.{AllByRecursion}
use Rattle.rom80_find.proofs.fitting.first_of.Given as goal

abbrev pub invariant-loop-byte : goal.invariant-loop-byte
invariant-loop-byte l = AllByRecursion (λ b. b.half ≢ l.half) (take l.byte-index l.bytes)
