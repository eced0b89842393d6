use Rattle.std.proofs.Common.{◌≡◌, ◌+◌, ◌≤◌, vec_len, ◌-◌}
use Rattle.std.specs.Io.KnownBytes.{Consumes}
use Rattle.stream80.proofs.whole.read_all.Given as goal

abbrev pub invariant-loop-piece : goal.invariant-loop-piece
invariant-loop-piece g l = record {
  in_range : vec_len l.bytes ≤ l.limit + 1;
  unfailed : g.S.Source.failed l.source ≡ g.S.Source.failed l.fn.source;
  front : Consumes (g.S.Source.left l.fn.source) (g.S.Source.left l.source) l.bytes.items;
}

abbrev pub decreases-loop-piece : goal.decreases-loop-piece
decreases-loop-piece g l = l.limit + 1 - vec_len l.bytes
