use Rattle.std.proofs.Common.{◌≡◌, take}
use Rattle.omf_core.specs.Record.{byte_sum}
use Rattle.omf_core.proofs.sum.sum_of.Given as goal

abbrev pub invariant-loop-byte : goal.invariant-loop-byte
invariant-loop-byte l = l.sum ≡ byte_sum (take l.byte-index l.bytes)
