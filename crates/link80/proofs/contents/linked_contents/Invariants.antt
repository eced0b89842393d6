use Rattle.std.proofs.Common.{◌≡◌, ◌<◌, ◌++◌, ℕ, Some, map, drop, slice_get}
use Rattle.omf_model.specs.Modules.{ModuleValue}
use Rattle.omf_model.specs.Rules.{IsModule}
use Rattle.std.specs.List.{flat_map, enumerate_from}
use Rattle.link80.specs.Linked.{linked_content, linked_contents}
use Rattle.link80.proofs.contents.linked_contents.Given as goal

-- the contents so far, and those of the modules that are left
abbrev pub invariant-loop-number : goal.invariant-loop-number
invariant-loop-number l =
    (l.contents.items ++ flat_map (λ m. map (linked_content l.tables m) m.1.contents)
    (enumerate_from l.number (drop l.number l.tables)) ≡ linked_contents l.tables)
    × ((k : ℕ) (m : ModuleValue) → k < l.number → slice_get l.tables k ≡ Some m → IsModule m)
