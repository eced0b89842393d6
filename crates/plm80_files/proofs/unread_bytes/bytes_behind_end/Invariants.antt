use Rattle.std.specs.Prelude.{ℕ, List, length}
use Rattle.plm80_files.specs.UnreadBytes.{IsBehindEnd}
use Rattle.plm80_files.proofs.unread_bytes.bytes_behind_end.Given as goal

-- what is behind the end record of the rest is behind that of all bytes
abbrev pub invariant-loop-kind : goal.invariant-loop-kind
invariant-loop-kind l = (after : List ℕ) → IsBehindEnd l.rest after → IsBehindEnd l.bytes after

abbrev pub decreases-loop-kind : goal.decreases-loop-kind
decreases-loop-kind l = length l.rest
