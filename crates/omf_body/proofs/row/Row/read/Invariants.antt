-- what is read, and what is left
use Rattle.std.proofs.Common.{length}
use Rattle.omf_body.proofs.Rows.{ReadSoFar}
use Rattle.omf_body.proofs.row.Row.read.Given as goal

abbrev pub invariant-loop-cursor : goal.invariant-loop-cursor
invariant-loop-cursor g l = ReadSoFar g.E.Entry.layout l.bytes l.cursor

abbrev pub decreases-loop-cursor : goal.decreases-loop-cursor
decreases-loop-cursor g l = length l.cursor
