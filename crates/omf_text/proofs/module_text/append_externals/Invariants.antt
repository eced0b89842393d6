-- the lines so far, and those of the items that are left
use Rattle.std.proofs.Common.{◌≡◌, ◌++◌, drop}
use Rattle.std.specs.List.{flat_map}
use Rattle.omf_text.specs.ModuleText.{external_line}
use Rattle.omf_text.proofs.module_text.append_externals.Given as goal

abbrev pub invariant-loop-name : goal.invariant-loop-name
invariant-loop-name l =
    l.text.items ++ flat_map external_line (drop l.name-index l.names)
    ≡ l.initial.text.items ++ flat_map external_line l.names
