-- What the verifier keeps true of its table while it fills: each frame in it is shown by walks. That is what makes its
-- refusals hold. (This project's own.)
use Rattle.std.specs.Prelude.{◌≡◌, ℕ, Bool, true, false, Ok}
use Rattle.decode80.specs.declared.fetching.Fetched.{Fetched}
use Rattle.frames80.specs.declared.word.Word.TheVariants.{Any}
use Rattle.frames80.specs.declared.moves.Moves.{Moves}
use Rattle.frames80.specs.StackFrame.{StackFrame}
use Rattle.frames80.specs.Effects.{effect_of}
use Rattle.frames80.specs.Moves.{moves_of}
use Rattle.frames80.specs.Places.{Place, word_at, Covers, ChangesByPlaces, ReturnsByPlaces, MeetsByPlaces, CountsAlone, CoveredGoesAlong, ReturnRefused}
use Rattle.frames80.specs.declared.procedure.Procedure.{Procedure}
use Rattle.frames80.specs.Code.{Code, role_of}
use Rattle.verify80_flow.specs.Walks.{Walk}

-- what may be asked of a frame: nothing, or one place that may be any word
pub data Query : Type 0 where
  Whole : Query
  At : Place → Query

-- the place that is asked for may be any word
abbrev pub MayBeAny : StackFrame → Query → Type 0
MayBeAny f Whole = Unit {0}
MayBeAny f (At place) = word_at f place ≡ Any

-- what is asked of frames: everything, or, if frames forget, nothing but their counts
abbrev pub Asks : (exact : Bool) → Query → Type 0
Asks true query = Unit {0}
Asks false Whole = Unit {0}
Asks false (At place) = ⊥

-- a walk to the point has the frame's counts, has the return address wherever the frame has it, and has any word at the
-- place that is asked for
pub record Shows (code : Code) (p : Procedure) (at : ℕ) (f : StackFrame) (query : Query) : Type 0 where
  pub frame : StackFrame
  pub walk : Walk code p at frame
  pub covers : Covers f frame
  pub answers : MayBeAny frame query

-- a frame is shown at a point: whatever is asked of it, a walk shows it
pub record IsShown (exact : Bool) (code : Code) (p : Procedure) (at : ℕ) (f : StackFrame) : Type 0 where
  pub by : (query : Query) → Asks exact query → MayBeAny f query → Shows code p at f query

-- at a shown frame an instruction moves
pub record AtMove (exact : Bool) (code : Code) (p : Procedure) (at : ℕ) (f : StackFrame) (found : Fetched) (moves : Moves) : Type 0 where
  pub shown : IsShown exact code p at f
  pub looked : code.look at ≡ Ok found
  pub moved : moves_of (role_of code p) (effect_of found.instr) f ≡ Ok moves

-- the laws of frames that this rests on
pub record FrameLaws : Type 0 where
  pub changes : ChangesByPlaces
  pub returns : ReturnsByPlaces
  pub meets : MeetsByPlaces
  pub counts : CountsAlone
  pub covered : CoveredGoesAlong
  pub refused : ReturnRefused
