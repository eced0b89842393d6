-- the lines so far, and those of the items that are left
use Rattle.std.proofs.Common.{◌≡◌, ◌++◌, drop}
use Rattle.std.specs.List.{flat_map}
use Rattle.omf_text.specs.ModuleText.{segment_line}
use Rattle.omf_text.proofs.module_text.append_segments.Given as goal

abbrev pub invariant-loop-entry : goal.invariant-loop-entry
invariant-loop-entry l =
    l.text.items ++ flat_map (segment_line l.commons) (drop l.entry-index l.segments)
    ≡ l.initial.text.items ++ flat_map (segment_line l.commons) l.segments
