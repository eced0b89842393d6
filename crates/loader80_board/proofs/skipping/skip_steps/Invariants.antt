use Rattle.machine80_board.specs.BoardRun.{BoardState}
use Rattle.machine80_board.specs.Keeping.{AreWhole, HasCome, IsNow}
use Rattle.loader80_board.proofs.skipping.skip_steps.Given as goal

abbrev pub invariant-loop-made : goal.invariant-loop-made
invariant-loop-made l = record {
  whole : AreWhole l.running;
  come : (start : BoardState) → IsNow l.rules.lines.now start l.fn.running → HasCome l.rules.lines.now l.rules.regions.now l.rules.outputs start l.made l.running;
}
