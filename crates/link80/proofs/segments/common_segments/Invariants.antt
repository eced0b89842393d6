use Rattle.std.proofs.Common.{◌≡◌, drop, map, length}
use Rattle.std.specs.List.{flat_map, AllByRecursion}
use Rattle.omf_model.specs.Segments.{empty_segment}
use Rattle.link80.specs.Joined.{parts_of_commons, with_named_parts}
use Rattle.link80.specs.Linked.{common_names}
use Rattle.link80.proofs.JoinedLemmas.{OncePart}
use Rattle.link80.proofs.segments.common_segments.Given as goal

-- the segments so far, with the parts of the modules that are left; and where these have a part of each name, all have
abbrev pub invariant-loop-number : goal.invariant-loop-number
invariant-loop-number l =
    (with_named_parts (common_names l.joined) l.segments.items (flat_map parts_of_commons (drop l.number l.joined))
    ≡ with_named_parts (common_names l.joined) (map (λ _. empty_segment) (common_names l.joined))
    (flat_map parts_of_commons l.joined))
    × (length l.segments.items ≡ length (common_names l.joined))
    × (AllByRecursion OncePart (drop l.number l.joined) → AllByRecursion OncePart l.joined)
