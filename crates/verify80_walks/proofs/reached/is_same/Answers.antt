use Rattle.std.proofs.Common.{sym, ◌∙◌}
use Rattle.frames80.specs.FrameEquality.{frame_decides}
use Rattle.verify80_walks.proofs.reached.is_same.Goals as goal

pub returns : goal.returns
returns c = λ same. (frame_decides c.args.one.now c.args.other.now).0 (sym c.eq.ensures ∙ same)
