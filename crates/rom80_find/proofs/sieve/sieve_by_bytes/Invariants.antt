-- the bytes so far
use Rattle.std.proofs.Common.{◌≡◌, ℕ, ◌<◌, ◌&&◌, length, take}
use Rattle.std.specs.List.{list_all}
use Rattle.rom80_find.specs.Marks.{bit_in, passes}
use Rattle.rom80_find.proofs.sieve.sieve_by_bytes.Given as goal

abbrev pub invariant-loop-byte : goal.invariant-loop-byte
invariant-loop-byte l = record {
  whole : length l.alive ≡ 1024;
  each : (a : ℕ) → a < 65536 → bit_in l.alive a ≡ (bit_in l.fn.alive a && list_all (passes l.dump a) (take l.byte-index l.code));
}
