-- Frames as they are kept: their words are those of a stack that has a number. (This project's own.)
use Rattle.std.specs.Prelude.{◌≡◌, ◌<◌, ℕ, List, [], map, Some, length, slice_get}
use Rattle.frames80.specs.declared.word.Word.{Word}
use Rattle.frames80.specs.StackFrame.{Pairs, StackFrame}
use Rattle.frames80_interned.specs.declared.interned_frame.InternedFrame.{InternedFrame}
use Rattle.frames80_interned.specs.Stacks.{words_at, IsStack}

abbrev pub pairs_of : InternedFrame → Pairs
pairs_of interned = record { bc = interned.bc; de = interned.de; hl = interned.hl }

-- the frame that is kept
abbrev pub frame_of : List (List Word) → InternedFrame → StackFrame
frame_of stacks interned = record { taken = interned.taken; words = words_at stacks interned.words; pairs = pairs_of interned }

abbrev pub frames_of : List (List Word) → List InternedFrame → List StackFrame
frames_of stacks interned = map (frame_of stacks) interned

-- a frame is kept so
pub record IsInterned (stacks : List (List Word)) (interned : InternedFrame) (frame : StackFrame) : Type 0 where
  pub there : interned.words < length stacks
  pub is : frame_of stacks interned ≡ frame

-- the words of each frame are those of a stack, and stack 0 has none
pub record AreInterned (stacks : List (List Word)) (interned : List InternedFrame) : Type 0 where
  pub empty : IsStack stacks 0 []
  pub there : (i : ℕ) (frame : InternedFrame) → slice_get interned i ≡ Some frame → frame.words < length stacks
