-- What becomes of a caller's frame when its callee returns, how frames meet at a point, and how deep a frame is. (This
-- project's own; the convention is that of the PL/M-80 manuals: a callee takes its arguments from the stack.)
use Rattle.std.specs.Prelude.{ℕ, ◌-◌, ◌*◌, ℤ, pos, ◌*ℤ◌, ◌-ℤ◌, Bool, ◌&&◌, nat_eq, nat_lt, List, [], ◌∷◌, drop, length, Result, Ok, Err, if◌then◌else◌}
use Rattle.frames80.specs.declared.word.Word.{Word}
use Rattle.frames80.specs.declared.role.Role.{Role}
use Rattle.frames80.specs.declared.role.Role.TheVariants.{Main, Entry}
use Rattle.frames80.specs.declared.fault.CallFault.{CallFault}
use Rattle.frames80.specs.declared.fault.CallFault.TheVariants.{ShortArguments}
use Rattle.frames80.specs.Word.{met}
use Rattle.frames80.specs.StackFrame.{StackFrame, Pairs, unknown}

-- how many words a callee may take: those above the bottom word, whatever that is; of the main program all
abbrev pub room : Role → List Word → ℕ
room (Main _) words = length words
room Entry words = length words - 1

-- the caller's frame when the callee has returned and taken a given number of words: they are gone, and the pairs may hold anything
abbrev pub returned : ℕ → StackFrame → StackFrame
returned taken f = record { taken = f.taken; words = drop taken f.words; pairs = unknown }

-- the frame after a call of a procedure that wants and takes a given number of words
abbrev pub after_call : Role → (wants taken : ℕ) → StackFrame → Result StackFrame CallFault
after_call role wants taken f = if nat_lt (room role f.words) wants then Err ShortArguments else Ok (returned taken f)

-- two frames have as many words taken, and as many words
abbrev pub agree : StackFrame → StackFrame → Bool
agree f g = nat_eq f.taken g.taken && nat_eq (length f.words) (length g.words)

-- lists of words that meet word by word, and pairs that meet
abbrev pub words_met : List Word → List Word → List Word
words_met [] ys = []
words_met (x ∷ xs) [] = []
words_met (x ∷ xs) (y ∷ ys) = met x y ∷ words_met xs ys

abbrev pub pairs_met : Pairs → Pairs → Pairs
pairs_met p q = record { bc = met p.bc q.bc; de = met p.de q.de; hl = met p.hl q.hl }

-- a frame that meets another
abbrev pub merged : StackFrame → StackFrame → StackFrame
merged f g = record { taken = f.taken; words = words_met f.words g.words; pairs = pairs_met f.pairs g.pairs }

-- by how many bytes the stack has grown since the procedure's start, by its words and those that are taken; an entry starts with
-- its return address on it. It is negative if the stack has shrunk
abbrev pub depth_by : Role → (words taken : ℕ) → ℤ
depth_by (Main _) words taken = pos (2 * words)
depth_by Entry words taken = pos 2 *ℤ ((pos words -ℤ pos 1) -ℤ pos taken)

abbrev pub depth_of : Role → StackFrame → ℤ
depth_of role f = depth_by role (length f.words) f.taken
