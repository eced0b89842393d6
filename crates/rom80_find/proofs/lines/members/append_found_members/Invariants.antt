-- the modules so far, of which no more can be missing than there are
use Rattle.std.proofs.Common.{◌≤◌, take}
use Rattle.rom80_find.specs.Prints.{PrintsFound}
use Rattle.rom80_find.proofs.lines.members.append_found_members.Given as goal

abbrev pub invariant-loop-source : goal.invariant-loop-source
invariant-loop-source l = record {
  bound : l.missing ≤ l.source-index;
  found : PrintsFound l.dump (take l.source-index l.members) l.missing l.initial.text.items l.text.items;
}
