use Rattle.std.proofs.Common.{◌≡◌, ◌+◌, ◌≤◌}
use Rattle.machine80_board.specs.BoardRun.{BoardState}
use Rattle.machine80_board.specs.Keeping.{AreWhole, HasCome}
use Rattle.loader80_board.proofs.TraceLemmas.{Shown}
use Rattle.loader80_board.proofs.tracing.write_each.Given as goal

abbrev pub invariant-loop-made : goal.invariant-loop-made
invariant-loop-made g l = record {
  whole : AreWhole l.running;
  within : l.lines.span.from + l.made ≤ l.lines.steps;
  unfailed : g.K.Sink.failed l.out ≡ g.K.Sink.failed l.fn.out;
  shown : (start : BoardState) → HasCome l.rules.lines.now l.rules.regions.now l.rules.outputs start l.lines.span.from l.fn.running →
      Shown l.rules.lines.now l.rules.regions.now start (record { steps = l.lines.steps; outputs = l.rules.outputs }) l.lines.span l.lines.form.publics.now l.lines.form.numbered l.made l.running (g.K.Sink.written l.fn.out) (g.K.Sink.written l.out);
}
