use Rattle.std.proofs.Common.{◌≡◌, length, take}
use Rattle.verify80_bounds.specs.Sums.{AreFollowed}
use Rattle.verify80_bounds.proofs.cycles.next_calls.Given as goal

abbrev pub invariant-loop-call : goal.invariant-loop-call
invariant-loop-call l = (AreFollowed l.calls (take l.call-index l.calls) l.next.items) × (length l.next.items ≡ 65537)
