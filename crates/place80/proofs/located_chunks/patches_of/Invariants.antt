use Rattle.std.proofs.Common.{◌≡◌, ◌++◌, map, drop}
use Rattle.omf_model.specs.ImageByte.{patch_with}
use Rattle.place80.specs.Locating.{word_among}
use Rattle.place80.proofs.located_chunks.patches_of.Given as goal

-- the patches so far, and those of the references that are left
abbrev pub invariant-loop-fixup : goal.invariant-loop-fixup
invariant-loop-fixup l =
    l.patches.items ++ map (patch_with (word_among l.segments) l.first) (drop l.fixup-index l.fixups)
    ≡ map (patch_with (word_among l.segments) l.first) l.fixups
