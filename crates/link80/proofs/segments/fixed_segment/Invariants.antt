use Rattle.std.proofs.Common.{◌≡◌, drop}
use Rattle.omf_model.specs.Segments.{empty_segment, segment_in}
use Rattle.link80.specs.Joined.{with_parts}
use Rattle.link80.proofs.segments.fixed_segment.Given as goal

-- the parts so far, joined, and those of the modules that are left
abbrev pub invariant-loop-number : goal.invariant-loop-number
invariant-loop-number l =
    with_parts (λ m. segment_in m.segments l.id) l.segment (drop l.number l.joined)
    ≡ with_parts (λ m. segment_in m.segments l.id) empty_segment l.joined
