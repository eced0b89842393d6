use Rattle.std.proofs.Common.{◌≡◌, ◌++◌, map, drop, filter_map}
use Rattle.link80.specs.Linked.{link_patch, linked_fixup}
use Rattle.link80.proofs.contents.resolve_fixups.Given as goal

-- the patches and the fixups so far, and those of the fixups that are left
abbrev pub invariant-loop-fixup : goal.invariant-loop-fixup
invariant-loop-fixup l =
    (l.patches.items ++ map (link_patch l.tables (l.number, l.source) l.content) (drop l.fixup-index l.content.fixups)
    ≡ map (link_patch l.tables (l.number, l.source) l.content) l.content.fixups)
    × (l.left.items ++ filter_map (linked_fixup l.tables (l.number, l.source) l.content) (drop l.fixup-index l.content.fixups)
    ≡ filter_map (linked_fixup l.tables (l.number, l.source) l.content) l.content.fixups)
