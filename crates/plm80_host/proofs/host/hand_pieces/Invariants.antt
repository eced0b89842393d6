-- the pieces that were handed on
use Rattle.std.proofs.Common.{◌+◌, ◌-◌, ◌≤◌, []}
use Rattle.plm80_host.proofs.host.hand_pieces.Given as goal

abbrev pub invariant-pieces : goal.invariant-pieces
invariant-pieces g l = record {
  in_range : l.taken ≤ 1048576 + 512;
  handed : g.F.TakePieces.has_taken l.fn.feed [] → g.F.TakePieces.has_taken l.feed l.pieces.journal.printed;
}

abbrev pub decreases-pieces : goal.decreases-pieces
decreases-pieces g l = 1048576 + 512 - l.taken
