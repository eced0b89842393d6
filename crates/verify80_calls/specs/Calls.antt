-- The calls of a procedure: those of its walks, with the depth of the walk's frame. (This project's own.)
use Rattle.std.specs.Prelude.{◌≡◌, ◌<◌, ℕ, ℤ, List, All, AllPairs, Contains}
use Rattle.frames80.specs.StackFrame.{StackFrame}
use Rattle.frames80.specs.Calls.{depth_of}
use Rattle.frames80.specs.declared.procedure.Procedure.{Procedure}
use Rattle.frames80.specs.Code.{Code, role_of}
use Rattle.verify80_flow.specs.Walks.{Walk, Calls}
use Rattle.verify80_calls.specs.declared.calls.Call.{Call}

-- a walk of the procedure is at the call, with its depth
pub record IsCall (code : Code) (p : Procedure) (call : Call) : Type 0 where
  pub frame : StackFrame
  pub next : ℕ
  pub walk : Walk code p call.at frame
  pub calls : Calls code p call.at frame call.target next
  pub depth : call.depth ≡ depth_of (role_of code p) frame

-- the list has a call at an address, of a target and with a depth
pub record HasCall (calls : List Call) (place address : ℕ) (bytes : ℤ) : Type 0 where
  pub call : Call
  pub there : Contains calls call
  pub at : call.at ≡ place
  pub target : call.target ≡ address
  pub depth : call.depth ≡ bytes

-- the calls are those of the procedure's walks, one for an address, by address
pub record AreCalls (code : Code) (p : Procedure) (calls : List Call) : Type 0 where
  pub each : All (IsCall code p) calls
  pub all : (at : ℕ) (f : StackFrame) (target next : ℕ) → Walk code p at f → Calls code p at f target next →
      HasCall calls at target (depth_of (role_of code p) f)
  pub by_address : AllPairs (λ (a b : Call). a.at < b.at) calls
