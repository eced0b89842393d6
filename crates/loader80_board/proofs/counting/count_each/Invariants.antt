use Rattle.std.proofs.Common.{◌≡◌, ℕ, ◌≤◌, get_or, length}
use Rattle.machine80_board.specs.BoardRun.{BoardState}
use Rattle.machine80_board.specs.Keeping.{AreWhole, IsNow}
use Rattle.loader80_board.proofs.CountLemmas.{Counted}
use Rattle.loader80_board.proofs.counting.count_each.Given as goal

abbrev pub invariant-loop-made : goal.invariant-loop-made
invariant-loop-made l = record {
  are_whole : AreWhole l.running;
  whole : length l.counts.items ≡ 65536;
  below : (address : ℕ) → get_or l.counts.items address 0 ≤ l.made;
  counted : (start : BoardState) → IsNow l.rules.lines.now start l.fn.running → Counted l.rules.lines.now l.rules.regions.now l.rules.outputs start l.made l.running l.counts.items;
}
