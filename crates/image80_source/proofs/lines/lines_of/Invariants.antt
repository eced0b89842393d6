use Rattle.std.proofs.Common.{◌≡◌, ◌-◌, ◌≤◌, ◌++◌}
use Rattle.std.specs.Prelude.{All}
use Rattle.std.specs.List.{flat_map}
use Rattle.image80_source.specs.Lines.{line_bytes, IsFound}
use Rattle.image80_source.specs.Placed.{marked_from, IsShort}
use Rattle.image80_source.proofs.lines.lines_of.Given as goal

-- the lines so far, and the bytes that are left
abbrev pub invariant-loop-at : goal.invariant-loop-at
invariant-loop-at l = record {
  bytes : flat_map line_bytes l.lines.items ++ marked_from l.contents.covered.now l.contents.memory.now l.at (65536 - l.at)
      ≡ marked_from l.contents.covered.now l.contents.memory.now 0 65536;
  found : All (IsFound l.contents.table.now) l.lines.items;
  short : All IsShort l.lines.items;
  inside : l.at ≤ 65536;
}

abbrev pub decreases-loop-at : goal.decreases-loop-at
decreases-loop-at l = 65536 - l.at
