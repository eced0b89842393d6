-- what was taken, and what is left
use Rattle.std.proofs.Common.{◌≡◌, ◌++◌, length, map}
use Rattle.omf_body.specs.Entries.{is_paged}
use Rattle.omf_module.specs.Gathered.{segments_in}
use Rattle.omf_module.proofs.gathering.segments_in.Given as goal

abbrev pub invariant-loop-entry : goal.invariant-loop-entry
invariant-loop-entry l =
    l.segments.items ++ map (λ e. (e.id, record { length = e.length; paged = is_paged e })) l.rest ≡ segments_in l.header

abbrev pub decreases-loop-entry : goal.decreases-loop-entry
decreases-loop-entry l = length l.rest
