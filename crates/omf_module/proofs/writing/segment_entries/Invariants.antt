-- what is made
use Rattle.std.proofs.Common.{◌≡◌, take, map}
use Rattle.omf_module.specs.Writing.{segment_entry}
use Rattle.omf_module.proofs.writing.segment_entries.Given as goal

abbrev pub invariant-loop-segment : goal.invariant-loop-segment
invariant-loop-segment l = l.entries.items ≡ map segment_entry (take l.segment-index l.segments)
