use Rattle.std.proofs.Common.{◌-◌}
use Rattle.frames80_interned.proofs.meets.depth_to_met.Given as goal

abbrev pub decreases-loop-depth : goal.decreases-loop-depth
decreases-loop-depth l = l.height - l.depth
