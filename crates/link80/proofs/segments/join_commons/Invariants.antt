use Rattle.std.proofs.Common.{◌≡◌, drop, map, length}
use Rattle.omf_model.specs.Segments.{segment_in}
use Rattle.link80.specs.Joined.{parts_of_commons, with_named_parts}
use Rattle.link80.specs.Linked.{common_names}
use Rattle.link80.proofs.segments.join_commons.Given as goal

-- the segments so far, with the parts that are left
abbrev pub invariant-loop-common : goal.invariant-loop-common
invariant-loop-common l =
    (with_named_parts (common_names l.joined) l.segments.items
    (map (λ c. (c.name, segment_in l.source.segments c.id)) (drop l.common-index l.source.commons))
    ≡ with_named_parts (common_names l.joined) l.initial.segments.items (parts_of_commons l.source))
    × (length l.segments.items ≡ length l.initial.segments.items)
