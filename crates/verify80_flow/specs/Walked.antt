-- Points to which walks come, each with the very frame that the walk has there. (This project's own.)
use Rattle.std.specs.Prelude.{◌≡◌, ◌<◌, ℕ, List, Option, Some, None, length, slice_get}
use Rattle.decode80.specs.declared.fetching.Fetched.{Fetched}
use Rattle.frames80.specs.declared.effect.Effect.{Effect}
use Rattle.frames80.specs.StackFrame.{StackFrame}
use Rattle.frames80_interned.specs.Admitted.{move_of}
use Rattle.frames80_interned.specs.Frames.{frame_at}
use Rattle.frames80.specs.declared.procedure.Procedure.{Procedure}
use Rattle.frames80.specs.declared.procedure.Procedure.TheVariants.{Entry}
use Rattle.verify80_flow.specs.declared.walks.WalkedPoint.{WalkedPoint}
use Rattle.verify80_flow.specs.declared.walks.Walks.{Walks}
use Rattle.frames80.specs.Code.{Code}
use Rattle.verify80_flow.specs.Walks.{Walk, Moving}

-- a walk reaches the point with its frame
pub record IsWalked (code : Code) (frames : List StackFrame) (point : WalkedPoint) : Type 0 where
  pub there : point.frame < length frames
  pub walk : Walk code point.procedure point.at (frame_at frames point.frame)

-- a walk reaches each of the points
pub record AreWalked (code : Code) (walks : Walks) : Type 0 where
  pub each : (i : ℕ) (point : WalkedPoint) → slice_get walks.points.items i ≡ Some point → IsWalked code walks.frames point

-- the instruction of the point has this effect, and this is the address after it
pub record IsMovingFrom (code : Code) (frames : List StackFrame) (point : WalkedPoint) (effect : Effect) (next : ℕ) : Type 0 where
  pub found : Fetched
  pub moving : Moving code point.procedure point.at (frame_at frames point.frame) found (move_of effect (frame_at frames point.frame))
  pub after : next ≡ found.next

-- the procedure is the one that is called
abbrev pub IsCallee : Procedure → (called : Option ℕ) → Type 0
IsCallee procedure None = ⊥
IsCallee procedure (Some target) = procedure ≡ Entry target
