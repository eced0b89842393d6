use Rattle.std.specs.Prelude.{◌≡◌, ◌<◌, ℕ, Some, slice_get}
use Rattle.verify80_follow.specs.declared.calls.Summary.{Summary}
use Rattle.verify80_follow.specs.Follows.{FitsSummary}
use Rattle.verify80_follow.specs.Tables.{fitting_of}
use Rattle.verify80_follow.proofs.fit.Fit.fits_summaries.Given as goal

abbrev pub invariant-loop-place : goal.invariant-loop-place
invariant-loop-place l = (k : ℕ) (s : Summary) → k < l.place → slice_get l.self.summaries.now k ≡ Some s → FitsSummary (fitting_of l.self) s
