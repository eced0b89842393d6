-- what is left has the entry that all have
use Rattle.std.proofs.Common.{◌≡◌, drop}
use Rattle.omf_model.specs.Segments.{segment_in}
use Rattle.omf_model.proofs.rules.segment_in.Given as goal

abbrev pub invariant-loop-entry : goal.invariant-loop-entry
invariant-loop-entry l = segment_in (drop l.entry-index l.entries) l.id ≡ segment_in l.entries l.id
