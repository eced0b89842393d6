use Rattle.std.proofs.Common.{◌≡◌, ◌<◌, length, take}
use Rattle.loader80_trace.proofs.memory.memory_bytes.Given as goal

abbrev pub invariant-loop-address : goal.invariant-loop-address
invariant-loop-address g l = record {
  front : l.bytes.items ≡ take l.address (g.B.Bus.memory l.bus);
  whole : 0 < l.address → length (g.B.Bus.memory l.bus) ≡ 65536;
}
