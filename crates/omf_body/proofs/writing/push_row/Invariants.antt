-- what is written
use Rattle.std.proofs.Common.{◌≡◌, ◌++◌, take}
use Rattle.std.specs.List.{flat_map}
use Rattle.omf_body.proofs.writing.push_row.Given as goal

abbrev pub invariant-loop-entry : goal.invariant-loop-entry
invariant-loop-entry g l = l.out.items ≡ l.initial.out.items ++ flat_map g.E.Entry.layout.bytes (take l.entry-index l.entries)
