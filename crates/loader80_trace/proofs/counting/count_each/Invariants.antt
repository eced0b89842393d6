use Rattle.std.proofs.Common.{◌≡◌, ℕ, ◌≤◌, get_or, length}
use Rattle.machine80.specs.Step.{with_ports}
use Rattle.machine80.specs.World.{World}
use Rattle.machine80_quick.specs.Quick.{StaysRight}
use Rattle.loader80_trace.specs.Finished.{AreOpen, HasReached}
use Rattle.loader80_trace.proofs.CountLemmas.{Counted}
use Rattle.loader80_trace.proofs.counting.count_each.Given as goal

abbrev pub invariant-loop-made : goal.invariant-loop-made
invariant-loop-made l = record {
  opened : AreOpen l.rules.outputs l.ports;
  whole : length l.counts.items ≡ 65536;
  below : (address : ℕ) → get_or l.counts.items address 0 ≤ l.made;
  counted : (start : World) → StaysRight l.rules.regions.now start → HasReached l.rules.regions.now l.rules.outputs start 0 (with_ports l.fn.first l.fn.bus l.fn.ports) →
      Counted l.rules.regions.now l.rules.outputs start l.made (with_ports l.cpu l.bus l.ports) l.counts.items;
}
