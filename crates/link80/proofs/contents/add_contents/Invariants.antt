use Rattle.std.proofs.Common.{◌≡◌, ◌++◌, map, drop}
use Rattle.link80.specs.Linked.{linked_content}
use Rattle.link80.proofs.contents.add_contents.Given as goal

-- the contents so far, and those of the module that are left
abbrev pub invariant-loop-content : goal.invariant-loop-content
invariant-loop-content l =
    l.contents.items ++ map (linked_content l.tables (l.number, l.source)) (drop l.content-index l.content-items)
    ≡ l.initial.contents.items ++ map (linked_content l.tables (l.number, l.source)) l.content-items
