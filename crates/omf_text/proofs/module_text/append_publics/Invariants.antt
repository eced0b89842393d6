-- the lines so far, and those of the items that are left
use Rattle.std.proofs.Common.{◌≡◌, ◌++◌, drop}
use Rattle.std.specs.List.{flat_map}
use Rattle.omf_text.specs.ModuleText.{public_line}
use Rattle.omf_text.proofs.module_text.append_publics.Given as goal

abbrev pub invariant-loop-public : goal.invariant-loop-public
invariant-loop-public l =
    l.text.items ++ flat_map (public_line l.commons) (drop l.public-index l.publics)
    ≡ l.initial.text.items ++ flat_map (public_line l.commons) l.publics
