-- Frames by number. (This project's own.)
use Rattle.std.specs.Prelude.{◌≡◌, ◌<◌, ℕ, List, Some, length, slice_get, slice_index_or}
use Rattle.frames80.specs.StackFrame.{StackFrame, entry_frame}
use Rattle.frames80.specs.Places.{Covers}

-- the frame that has a number
abbrev pub frame_at : List StackFrame → ℕ → StackFrame
frame_at frames id = slice_index_or frames id entry_frame

-- a frame has a number
pub record IsFrame (frames : List StackFrame) (id : ℕ) (frame : StackFrame) : Type 0 where
  pub there : id < length frames
  pub is : frame_at frames id ≡ frame

-- a number has a frame that covers this one: the same counts, and the return address only if this one has it
pub record IsLesserFrame (frames : List StackFrame) (id : ℕ) (frame : StackFrame) : Type 0 where
  pub there : id < length frames
  pub covers : Covers (frame_at frames id) frame

-- each frame has the number that it had
pub record StayNumbered (old new : List StackFrame) : Type 0 where
  pub stays : (id : ℕ) (frame : StackFrame) → slice_get old id ≡ Some frame → slice_get new id ≡ Some frame
