-- what is left lists the id where all does
use Rattle.std.proofs.Common.{◌≡◌, ◌==◌, length}
use Rattle.std.specs.List.{list_any}
use Rattle.omf_body.specs.declared.entries.SegmentEntry.{SegmentEntry}
use Rattle.omf_body.proofs.distinct.lists_id.Given as goal

abbrev pub invariant-loop-segment : goal.invariant-loop-segment
invariant-loop-segment l = list_any (λ (d : SegmentEntry). d.id == l.id) l.rest ≡ list_any (λ (d : SegmentEntry). d.id == l.id) l.initial.rest

abbrev pub decreases-loop-segment : goal.decreases-loop-segment
decreases-loop-segment l = length l.rest
