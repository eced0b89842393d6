-- What becomes of a frame at an instruction: the frame after it and where the procedure goes on, or why it is refused there.
-- (This project's own.)
use Rattle.std.specs.Prelude.{ℕ, Bool, true, false, ◌==◌, List, [], ◌∷◌, Option, None, Some, Result, Ok, Err, if◌then◌else◌}
use Rattle.frames80.specs.declared.word.Word.{Word}
use Rattle.frames80.specs.declared.word.Word.TheVariants.{Own, Any}
use Rattle.frames80.specs.declared.role.Role.{Role}
use Rattle.frames80.specs.declared.role.Role.TheVariants.{Main, Entry}
use Rattle.frames80.specs.declared.frame_pair.FramePair.{FramePair}
use Rattle.frames80.specs.declared.frame_pair.FramePair.TheVariants.{Hl}
use Rattle.frames80.specs.declared.fault.FrameFault.{FrameFault}
use Rattle.frames80.specs.declared.fault.FrameFault.TheVariants.{SetsStack, PopsBelow, ReturnNotOwn, ReturnFromMain}
use Rattle.frames80.specs.declared.effect.Change.{Change}
use Rattle.frames80.specs.declared.effect.Change.TheVariants.{Keep, Push, PushAny, Pop, Drop, Swap, Exchange, Forget, SetStack}
use Rattle.frames80.specs.declared.effect.Effect.{Effect}
use Rattle.frames80.specs.declared.effect.Effect.TheVariants.{Change as Changes, Halt, Jump, JumpIf, Case, Call, CallIf, Return, ReturnIf, Refuse}
use Rattle.frames80.specs.declared.moves.Moves.{Moves}
use Rattle.frames80.specs.declared.moves.Moves.TheVariants.{End, On, Jump as MovesTo, Either, Case as Cases, Call as CallOf, MaybeCall, Return as Returns, MaybeReturn}
use Rattle.frames80.specs.StackFrame.{StackFrame, pair_in, with_pair, top_word, pushed, popped, exchanged, cleared}

-- the frame with this word in a pair
abbrev pub holding : FramePair → Word → StackFrame → StackFrame
holding pair word f = record f { pairs = with_pair f.pairs pair word }

-- the frame after a change
abbrev pub changed : Change → StackFrame → StackFrame
changed Keep f = f
changed (Push pair) f = pushed (pair_in f.pairs pair) f
changed PushAny f = pushed Any f
changed (Pop pair) f = holding pair (top_word f.words) (popped f)
changed Drop f = popped f
changed Swap f = holding Hl (top_word f.words) (pushed f.pairs.hl (popped f))
changed Exchange f = exchanged f
changed (Forget pair) f = holding pair Any f
changed (SetStack _) f = cleared f

-- why a pop is refused: if the words are empty the main program has none to pop; an entry takes one from beneath
abbrev pub pop_fault : Role → List Word → Option FrameFault
pop_fault (Main _) [] = Some PopsBelow
pop_fault (Main _) (word ∷ words) = None
pop_fault Entry words = None

-- why a load of the stack pointer is refused: only the main program may, and only with the stack's top
abbrev pub load_fault : Role → ℕ → Option FrameFault
load_fault (Main top) address = if top == address then None else Some SetsStack
load_fault Entry address = Some SetsStack

-- why a change is refused
abbrev pub change_fault : Role → Change → List Word → Option FrameFault
change_fault role (Pop _) words = pop_fault role words
change_fault role Drop words = pop_fault role words
change_fault role Swap words = pop_fault role words
change_fault role (SetStack address) words = load_fault role address
change_fault role Keep words = None
change_fault role (Push _) words = None
change_fault role PushAny words = None
change_fault role Exchange words = None
change_fault role (Forget _) words = None

-- whether the words are the return address alone
abbrev pub is_own_alone : List Word → Bool
is_own_alone [] = false
is_own_alone (Own ∷ []) = true
is_own_alone (Own ∷ word ∷ words) = false
is_own_alone (Any ∷ words) = false

-- why a return is refused: the main program has nowhere to return to; an entry's words must be its return address alone
abbrev pub return_fault : Role → List Word → Option FrameFault
return_fault (Main _) words = Some ReturnFromMain
return_fault Entry words = if is_own_alone words then None else Some ReturnNotOwn

-- why an effect is refused that isn't refused in every frame
abbrev pub fault_of : Role → Effect → List Word → Option FrameFault
fault_of role (Changes change) words = change_fault role change words
fault_of role Return words = return_fault role words
fault_of role ReturnIf words = return_fault role words
fault_of role Halt words = None
fault_of role (Jump _) words = None
fault_of role (JumpIf _) words = None
fault_of role Case words = None
fault_of role (Call _) words = None
fault_of role (CallIf _) words = None
fault_of role (Refuse _) words = None

-- the fault, if there is one, and else the move
abbrev pub unless : Option FrameFault → Moves → Result Moves FrameFault
unless None move = Ok move
unless (Some fault) move = Err fault

-- what becomes of a frame by an effect
abbrev pub moves_of : Role → Effect → StackFrame → Result Moves FrameFault
moves_of role (Changes change) f = unless (change_fault role change f.words) (On (changed change f))
moves_of role Halt f = Ok End
moves_of role (Jump to) f = Ok (MovesTo f to)
moves_of role (JumpIf to) f = Ok (Either f to)
moves_of role Case f = Ok (Cases f)
moves_of role (Call to) f = Ok (CallOf f to)
moves_of role (CallIf to) f = Ok (MaybeCall f to)
moves_of role Return f = unless (return_fault role f.words) (Returns f.taken)
moves_of role ReturnIf f = unless (return_fault role f.words) (MaybeReturn f f.taken)
moves_of role (Refuse fault) f = Err fault
