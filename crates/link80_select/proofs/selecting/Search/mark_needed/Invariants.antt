-- what is marked for the externals so far
use Rattle.std.proofs.Common.{take}
use Rattle.std.specs.Prelude.{filter_map}
use Rattle.omf_library.specs.Providers.{first_provider}
use Rattle.link80_select.specs.Selecting.{Marks}
use Rattle.link80_select.proofs.selecting.Search.mark_needed.Given as goal

abbrev pub invariant-loop-name : goal.invariant-loop-name
invariant-loop-name l = Marks
    (filter_map (first_provider l.row) (take l.name-index l.name-items)) l.initial.self.marked.items l.initial.self.queue.items
    l.self.marked.items l.self.queue.items
