-- the numbers of the bytes so far are below the count
use Rattle.std.proofs.Common.{◌≤◌, take}
use Rattle.rom80_find.specs.Places.{AreBelow}
use Rattle.rom80_find.proofs.listing.count_of_values.Given as goal

abbrev pub invariant-loop-byte : goal.invariant-loop-byte
invariant-loop-byte l = record {
  two : 2 ≤ l.count;
  few : l.count ≤ 65792;
  below : AreBelow l.count (take l.byte-index l.code);
}
