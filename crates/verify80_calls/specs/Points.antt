-- The points of a procedure, and the calls at them. (This project's own.)
use Rattle.std.specs.Prelude.{◌≡◌, ◌<◌, ℕ, List, All, AllPairs, Option, Some, None}
use Rattle.std.specs.Result.{result_ok}
use Rattle.std.specs.Option.{option_map}
use Rattle.decode80.specs.declared.fetching.Fetched.{Fetched}
use Rattle.frames80.specs.declared.effect.Effect.{Effect}
use Rattle.frames80.specs.declared.effect.Effect.TheVariants.{Change, Halt, Jump, JumpIf, Case, Call as Calling, CallIf, Return, ReturnIf, Refuse}
use Rattle.frames80.specs.StackFrame.{StackFrame}
use Rattle.frames80.specs.Effects.{effect_of}
use Rattle.frames80.specs.Calls.{depth_by}
use Rattle.frames80.specs.declared.procedure.Procedure.{Procedure}
use Rattle.frames80.specs.Code.{Code, role_of}
use Rattle.verify80_flow.specs.Walks.{Walk}
use Rattle.verify80_flow.specs.declared.report.ProgramPoint.{ProgramPoint}
use Rattle.verify80_flow.specs.ProgramPoints.{IsReachedPoint, HasReachedPoint}
use Rattle.verify80_calls.specs.declared.calls.Call.{Call}

-- exactly the points of a procedure's walks, by address
pub record ArePointsOf (code : Code) (p : Procedure) (points : List ProgramPoint) : Type 0 where
  pub own : All (λ (point : ProgramPoint). point.procedure ≡ p) points
  pub each : All (IsReachedPoint code) points
  pub all : (at : ℕ) (f : StackFrame) → Walk code p at f → HasReachedPoint points p at f
  pub by_address : AllPairs (λ (a b : ProgramPoint). a.at < b.at) points

-- the address that an effect calls
abbrev pub called_by : Effect → Option ℕ
called_by (Change _) = None
called_by Halt = None
called_by (Jump _) = None
called_by (JumpIf _) = None
called_by Case = None
called_by (Calling to) = Some to
called_by (CallIf to) = Some to
called_by Return = None
called_by ReturnIf = None
called_by (Refuse _) = None

-- the call of an address at a point
abbrev pub call_to : Code → ProgramPoint → (target : ℕ) → Call
call_to code point target =
    record { at = point.at; depth = depth_by (role_of code point.procedure) point.words point.taken; target = target }

-- the call at a point, if the instruction that is found there calls
abbrev pub call_of : Code → ProgramPoint → Option Fetched → Option Call
call_of code point None = None
call_of code point (Some found) = option_map (call_to code point) (called_by (effect_of found.instr))

abbrev pub call_at : Code → ProgramPoint → Option Call
call_at code point = call_of code point (result_ok (code.look point.at))
