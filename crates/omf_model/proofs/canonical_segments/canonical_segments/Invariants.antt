-- the entries so far, and those of the ids that are left
use Rattle.std.proofs.Common.{◌≡◌, ◌++◌, ◌-◌}
use Rattle.std.specs.List.{range_with_len}
use Rattle.omf_model.specs.Segments.{entries_for, canonical_segments}
use Rattle.omf_model.proofs.canonical_segments.canonical_segments.Given as goal

abbrev pub invariant-loop-id : goal.invariant-loop-id
invariant-loop-id l = l.listed.items ++ entries_for l.entries l.commons (range_with_len l.id (256 - l.id)) ≡ canonical_segments l.entries l.commons
