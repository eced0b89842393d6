use Rattle.std.specs.Prelude.{◌≡◌, ◌<◌, ℕ, Some, false, slice_get}
use Rattle.verify80_spans.specs.Span.{Within}
use Rattle.verify80_follow.specs.Follows.{CoversThen}
use Rattle.verify80_follow.specs.Tables.{fitting_of}
use Rattle.verify80_follow.proofs.fit.Fit.jumps_to_each.Given as goal

abbrev pub invariant-loop-place : goal.invariant-loop-place
invariant-loop-place l = (k to : ℕ) → k < l.place → slice_get l.targets k ≡ Some to → Within l.here.state.now.known.hl.words to →
    CoversThen l.self.bounds (fitting_of l.self) l.here.state.now l.here.found false to l.here.state.now.known
