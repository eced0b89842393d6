-- what was taken, and what is left has the first fault of all
use Rattle.std.proofs.Common.{◌≡◌, drop, List}
use Rattle.omf_model.specs.Contents.{ContentValue}
use Rattle.omf_module.specs.Gathered.{with_fixups}
use Rattle.omf_module.specs.Uses.{fixups_fault}
use Rattle.omf_module.specs.Reading.{with_contents}
use Rattle.omf_module.proofs.open_content.OpenContent.take_all.Given as goal

abbrev pub invariant-loop-fixup : goal.invariant-loop-fixup
invariant-loop-fixup l =
    (with_fixups l.self (drop l.fixup-index l.fixups) ≡ with_fixups l.fn.self l.fixups)
    × ((cs : List ContentValue)
    → fixups_fault (with_contents l.parts cs) l.self (drop l.fixup-index l.fixups)
    ≡ fixups_fault (with_contents l.parts cs) l.fn.self l.fixups)
