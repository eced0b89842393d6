use Rattle.machine80_board.specs.BoardRun.{BoardState}
use Rattle.machine80_board.specs.Keeping.{AreWhole, HasCome, IsNow}
use Rattle.machine80_board.proofs.running.advance.Given as goal

abbrev pub invariant-loop-made : goal.invariant-loop-made
invariant-loop-made l = record {
  whole : AreWhole l.running;
  come : (s : BoardState) → IsNow l.rules.lines.now s l.fn.running → HasCome l.rules.lines.now l.rules.regions.now l.rules.outputs s l.made l.running;
}
