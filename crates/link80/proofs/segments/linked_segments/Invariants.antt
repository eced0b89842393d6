use Rattle.std.proofs.Common.{◌≡◌, ◌+◌, ◌++◌, drop, map}
use Rattle.std.specs.List.{enumerate_from}
use Rattle.link80.specs.Linked.{linked_ids, linked_segment}
use Rattle.link80.proofs.segments.linked_segments.Given as goal

-- the segments so far, and those of the commons that are left
abbrev pub invariant-loop-segment : goal.invariant-loop-segment
invariant-loop-segment l =
    (l.segments.items ++ enumerate_from l.id (drop l.segment-index l.segment-items)
    ≡ map (λ id. (id, linked_segment l.joined id)) (linked_ids l.joined))
    × (l.id ≡ 6 + l.segment-index)
