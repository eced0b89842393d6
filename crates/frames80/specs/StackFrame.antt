-- A procedure's stack frame, as the verifier follows it: the words that the procedure has on the stack, how many it has
-- taken from beneath them, and what its register pairs hold. (The frames are this project's own; what they follow is the
-- calling convention of the PL/M-80 manuals: the callee pops its return address, pops its arguments, pushes the address
-- back and returns.)
use Rattle.std.specs.Prelude.{ℕ, ◌+◌, List, [], ◌∷◌, drop}
use Rattle.frames80.specs.declared.word.Word.{Word}
use Rattle.frames80.specs.declared.word.Word.TheVariants.{Own, Any}
use Rattle.frames80.specs.declared.frame_pair.FramePair.{FramePair}
use Rattle.frames80.specs.declared.frame_pair.FramePair.TheVariants.{Bc, De, Hl}

-- what the three register pairs hold
pub record Pairs : Type 0 where
  pub bc : Word
  pub de : Word
  pub hl : Word

-- a frame: the words taken from beneath, the procedure's own words, top first, and the pairs
pub record StackFrame : Type 0 where
  pub taken : ℕ
  pub words : List Word
  pub pairs : Pairs

abbrev pub pair_in : Pairs → FramePair → Word
pair_in pairs Bc = pairs.bc
pair_in pairs De = pairs.de
pair_in pairs Hl = pairs.hl

abbrev pub with_pair : Pairs → FramePair → Word → Pairs
with_pair pairs Bc word = record pairs { bc = word }
with_pair pairs De word = record pairs { de = word }
with_pair pairs Hl word = record pairs { hl = word }

-- nothing is known of the pairs
abbrev pub unknown : Pairs
unknown = record { bc = Any; de = Any; hl = Any }

-- a frame of these words, whose pairs may hold anything
abbrev pub of_words : (taken : ℕ) → List Word → StackFrame
of_words taken words = record { taken = taken; words = words; pairs = unknown }

-- the frame at the start of an entry, a procedure that is called: its return address alone
abbrev pub entry_frame : StackFrame
entry_frame = record { taken = 0; words = Own ∷ []; pairs = unknown }

-- the frame at the start of the main program: no words
abbrev pub main_frame : StackFrame
main_frame = record { taken = 0; words = []; pairs = unknown }

-- the top of the words; past their end it is any word
abbrev pub top_word : List Word → Word
top_word [] = Any
top_word (word ∷ words) = word

-- how many words are taken after a pop: one more if there was none of the procedure's own
abbrev pub taken_after_pop : List Word → ℕ → ℕ
taken_after_pop [] taken = taken + 1
taken_after_pop (word ∷ words) taken = taken

-- the frame after a push, and after a pop
abbrev pub pushed : Word → StackFrame → StackFrame
pushed word f = record f { words = word ∷ f.words }

abbrev pub popped : StackFrame → StackFrame
popped f = record { taken = taken_after_pop f.words f.taken; words = drop 1 f.words; pairs = f.pairs }

-- DE and HL change places
abbrev pub exchanged : StackFrame → StackFrame
exchanged f = record f { pairs = record { bc = f.pairs.bc; de = f.pairs.hl; hl = f.pairs.de } }

-- no word is left
abbrev pub cleared : StackFrame → StackFrame
cleared f = record f { words = [] }
