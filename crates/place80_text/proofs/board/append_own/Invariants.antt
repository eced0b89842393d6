-- the lines so far, and those of the segments that are left, whose lengths are words
use Rattle.std.proofs.Common.{◌≡◌, ◌<◌, ◌++◌, drop}
use Rattle.std.specs.Prelude.{◌==◌, filter}
use Rattle.std.specs.List.{AllByRecursion, flat_map}
use Rattle.place80.specs.declared.placed_segments.Placed.{Placed}
use Rattle.place80_text.specs.Map.{segment_line}
use Rattle.place80_text.proofs.board.append_own.Given as goal

abbrev pub invariant-loop-placed : goal.invariant-loop-placed
invariant-loop-placed l = record {
  lines : l.text.items ++ flat_map (segment_line l.commons) (filter (λ p. p.id == l.id) (drop l.placed-index l.segments)) ≡ l.initial.text.items
      ++ flat_map (segment_line l.commons) (filter (λ p. p.id == l.id) l.segments);
  rules : AllByRecursion (λ (p : Placed). p.length < 65536) (drop l.placed-index l.segments);
}
