-- the ranges so far
use Rattle.std.specs.Prelude.{◌≡◌, map, take}
use Rattle.plm80_console.specs.Ranges.{AreRangesOf}
use Rattle.plm80_console.proofs.ranges.ranges_of.Given as goal

abbrev pub invariant-loop-value : goal.invariant-loop-value
invariant-loop-value g l = record {
  ranges : AreRangesOf (map (λ value. value.now) (take l.value-index l.values)) l.ranges.items;
  unchanged : g.C.Console.journal l.console ≡ g.C.Console.journal l.fn.console;
}
