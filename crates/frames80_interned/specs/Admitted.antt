-- What becomes of a frame at an instruction that is admitted. (This project's own.)
use Rattle.frames80.specs.StackFrame.{StackFrame}
use Rattle.frames80.specs.declared.effect.Effect.{Effect}
use Rattle.frames80.specs.declared.effect.Effect.TheVariants.{Change, Halt, Jump, JumpIf, Case, Call, CallIf, Return, ReturnIf, Refuse}
use Rattle.frames80.specs.declared.moves.Moves.{Moves}
use Rattle.frames80.specs.declared.moves.Moves.TheVariants.{End, On, Jump as MovesTo, Either, Case as Cases, Call as Calls, MaybeCall, Return as Returns, MaybeReturn}
use Rattle.frames80.specs.Moves.{changed}

-- the move of an effect, if it is admitted; one that is refused in every frame has none
abbrev pub move_of : Effect → StackFrame → Moves
move_of (Change change) f = On (changed change f)
move_of Halt f = End
move_of (Jump to) f = MovesTo f to
move_of (JumpIf to) f = Either f to
move_of Case f = Cases f
move_of (Call to) f = Calls f to
move_of (CallIf to) f = MaybeCall f to
move_of Return f = Returns f.taken
move_of ReturnIf f = MaybeReturn f f.taken
move_of (Refuse _) f = End
