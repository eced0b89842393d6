-- Where walks of a program stand, on conditions. (This project's own.)
use Rattle.std.specs.Prelude.{◌≡◌, ◌⊎◌, ℕ, List, Option, Some, None, Result, Ok, Err, All, Any, IfSome, Contains}
use Rattle.decode80.specs.declared.fetching.Fetched.{Fetched}
use Rattle.frames80.specs.declared.code.LookFault.{LookFault}
use Rattle.frames80.specs.declared.fault.FrameFault.{FrameFault}
use Rattle.frames80.specs.declared.moves.Moves.{Moves}
use Rattle.frames80.specs.declared.procedure.Procedure.{Procedure}
use Rattle.frames80.specs.declared.role.Role.{Role}
use Rattle.frames80.specs.Code.{Code, role_of}
use Rattle.frames80.specs.Effects.{effect_of}
use Rattle.frames80.specs.Moves.{moves_of}
use Rattle.frames80.specs.StackFrame.{StackFrame}
use Rattle.verify80_flow.specs.Faults.{Holds}
use Rattle.verify80_flow.specs.Refusal.{look_refusal, refusal_address, refusal_of}
use Rattle.verify80_flow.specs.declared.refusal.Refusal.{Refusal}
use Rattle.verify80_explain.specs.declared.conditions.Conditions.{Conditions}
use Rattle.verify80_explain.specs.declared.reaching.Reach.{Reach}
use Rattle.verify80_explain.specs.declared.reaching.ReachedPoint.{ReachedPoint}
use Rattle.verify80_explain.specs.Chains.{StandsAt}
use Rattle.verify80_explain.specs.Conditions.{AreConditionsOf, MayBegin, code_from}
use Rattle.verify80_explain.specs.Order.{AreAscending, ArePointsInOrder, AreSame}

-- ---- why an instruction may not be executed

-- of an instruction at an address that does this to a frame: None if it leads on, or ends the program
abbrev pub refusal_by : ℕ → Result Moves FrameFault → Option Refusal
refusal_by at (Ok _) = None
refusal_by at (Err fault) = Some (refusal_of fault at)

-- of what is found at an address, with a frame
abbrev pub refusal_found : Role → StackFrame → ℕ → Result Fetched LookFault → Option Refusal
refusal_found role frame at (Ok found) = refusal_by at (moves_of role (effect_of found.instr) frame)
refusal_found role frame at (Err fault) = Some (look_refusal fault at)

-- of the instruction at an address, if a procedure is there with this frame; None exactly if it may be executed
abbrev pub refusal_with : Code → Procedure → ℕ → StackFrame → Option Refusal
refusal_with code procedure at frame = refusal_found (role_of code procedure) frame at (code.look at)

-- ---- points that are reached

-- the instruction at an address may not be executed, whatever the frame is
pub record IsNeverExecuted (code : Code) (at : ℕ) (refusal : Refusal) : Type 0 where
  pub fault : LookFault
  pub looked : code.look at ≡ Err fault
  pub is : refusal ≡ look_refusal fault at

-- a refusal of an address holds
pub record HoldsAt (code : Code) (at : ℕ) (refusal : Refusal) : Type 0 where
  pub holds : Holds code refusal
  pub address : refusal_address refusal ≡ Some at

-- a refusal is that of an instruction without conditions, though one may pass over it, or with them
abbrev pub IsRefusedAt : (plain code : Code) → (at : ℕ) → Refusal → Type 0
IsRefusedAt plain code at refusal = IsNeverExecuted plain at refusal ⊎ HoldsAt code at refusal

-- a walk stands there, and the refusal is the one that the program without conditions has there with that walk's frame; if it has none,
-- none is given
pub record IsReachedAt (plain code : Code) (point : ReachedPoint) : Type 0 where
  pub stands : StandsAt code point.standing
  pub judged : point.refusal ≡ refusal_with plain point.standing.procedure point.standing.at stands.frame

-- the same on conditions, if the program begins at one of these addresses; a refusal that is given is of this address
pub record IsReachedOn (code : Code) (begins : List (Option ℕ)) (conditions : Conditions) (point : ReachedPoint) : Type 0 where
  pub begin : Option ℕ
  pub among : Contains begins begin
  pub there : IsReachedAt code (code_from begin conditions code) point
  pub refused : IfSome point.refusal (IsRefusedAt code (code_from begin conditions code) point.standing.at)

-- each point is reached on the conditions that stand with them, which are of the program; the points ascend, each once
pub record AreReachedOn (code : Code) (reach : Reach) : Type 0 where
  pub begins : All (MayBegin code) reach.begins.items
  pub conditions : AreConditionsOf code reach.conditions
  pub each : All (IsReachedOn code reach.begins.items reach.conditions) reach.points.items
  pub in_order : ArePointsInOrder reach.points.items

-- a refusal is that of one of these points
abbrev pub IsRefusalAmong : List ReachedPoint → Refusal → Type 0
IsRefusalAmong points refusal = Any (λ (point : ReachedPoint). point.refusal ≡ Some refusal) points

-- the refusal of a point, if it has one, is among these, by its address and its number
abbrev pub IsListedIn : List Refusal → ReachedPoint → Type 0
IsListedIn refusals point = IfSome point.refusal (λ refusal. Any (AreSame refusal) refusals)

-- a list is the refusals of points: those and no others, each once, in their order
pub record AreRefusalsOf (points : List ReachedPoint) (refusals : List Refusal) : Type 0 where
  pub among : All (IsRefusalAmong points) refusals
  pub whole : All (IsListedIn refusals) points
  pub ascending : AreAscending refusals
