use Rattle.std.proofs.Common.{◌≡◌, ◌+◌, ◌≤◌}
use Rattle.machine80.specs.Step.{with_ports}
use Rattle.machine80.specs.World.{World}
use Rattle.machine80_quick.specs.Quick.{StaysRight}
use Rattle.loader80_trace.specs.Finished.{AreOpen, HasReached}
use Rattle.loader80_trace.proofs.TraceLemmas.{Shown}
use Rattle.loader80_trace.proofs.tracing.write_each.Given as goal

abbrev pub invariant-loop-made : goal.invariant-loop-made
invariant-loop-made g l = record {
  opened : AreOpen l.rules.outputs l.ports;
  within : l.lines.span.from + l.made ≤ l.lines.steps;
  unfailed : g.K.Sink.failed l.out ≡ g.K.Sink.failed l.fn.out;
  shown : (start : World) → StaysRight l.rules.regions.now start → HasReached l.rules.regions.now l.rules.outputs start l.lines.span.from (with_ports l.fn.first l.fn.bus l.fn.ports) →
      Shown l.rules.regions.now l.rules.outputs start l.lines.form.publics.now l.lines.form.numbered l.lines.steps l.lines.span.from l.lines.span.count l.made (with_ports l.cpu l.bus l.ports) (g.K.Sink.written l.fn.out) (g.K.Sink.written l.out);
}
