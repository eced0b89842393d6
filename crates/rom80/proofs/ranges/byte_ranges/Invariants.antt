-- the ranges so far, and those of the chunks that are left
use Rattle.std.proofs.Common.{◌≡◌, ◌++◌, drop}
use Rattle.rom80.specs.Ranges.{byte_ranges, joined_from}
use Rattle.rom80.proofs.ranges.byte_ranges.Given as goal

abbrev pub invariant-loop-chunk : goal.invariant-loop-chunk
invariant-loop-chunk l = l.ranges.items ++ joined_from l.before (drop l.chunk-index l.chunk-items) ≡ byte_ranges l.chunk-items
