-- The frame that a value of the program stands for. The program keeps the words from bottom to top, the definitions have them
-- top first. (This project's own.)
use Rattle.std.specs.Prelude.{reverse}
use Rattle.frames80.specs.declared.frame.Frame.TheInside.{Inside}
use Rattle.frames80.specs.StackFrame.{StackFrame}

abbrev pub frame_view : Inside → StackFrame
frame_view f = record { taken = f.taken; words = reverse f.words.items; pairs = record { bc = f.bc; de = f.de; hl = f.hl } }
