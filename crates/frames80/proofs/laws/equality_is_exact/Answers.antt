use Rattle.frames80.specs.FrameEquality.{frame_decides}
use Rattle.frames80.proofs.laws.equality_is_exact.Goals as goal

pub returns : goal.returns
returns c = frame_decides
