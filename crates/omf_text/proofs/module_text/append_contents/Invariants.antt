-- the lines so far, and those of the items that are left
use Rattle.std.proofs.Common.{◌≡◌, ◌++◌, drop}
use Rattle.std.specs.List.{flat_map}
use Rattle.omf_text.specs.ModuleText.{content_line}
use Rattle.omf_text.proofs.module_text.append_contents.Given as goal

abbrev pub invariant-loop-content : goal.invariant-loop-content
invariant-loop-content l =
    l.text.items ++ flat_map (content_line l.commons) (drop l.content-index l.contents)
    ≡ l.initial.text.items ++ flat_map (content_line l.commons) l.contents
