-- How many bytes of stack a procedure uses: over all chains of calls, what each caller has on the stack and its return
-- address, and what the last procedure has. (This project's own.)
use Rattle.std.specs.Prelude.{◌≡◌, ℕ, ℤ, pos, ◌+ℤ◌, ◌≤ℤ◌}
use Rattle.frames80.specs.StackFrame.{StackFrame}
use Rattle.frames80.specs.Calls.{depth_of}
use Rattle.frames80.specs.declared.procedure.Procedure.{Procedure}
use Rattle.frames80.specs.declared.procedure.Procedure.TheVariants.{Entry}
use Rattle.frames80.specs.Code.{Code, role_of}
use Rattle.verify80_flow.specs.Walks.{Walk, Calls}

-- the last procedure of a chain: its frame's depth
pub record EndsChain (code : Code) (p : Procedure) (bytes : ℤ) : Type 0 where
  pub at : ℕ
  pub frame : StackFrame
  pub walk : Walk code p at frame
  pub sum : bytes ≡ depth_of (role_of code p) frame

-- a call in a chain: the caller's depth, two bytes for the return address, and what the callee uses
pub record Chains (code : Code) (p : Procedure) (target : ℕ) (below bytes : ℤ) : Type 0 where
  pub at : ℕ
  pub next : ℕ
  pub frame : StackFrame
  pub walk : Walk code p at frame
  pub call : Calls code p at frame target next
  pub sum : bytes ≡ (depth_of (role_of code p) frame +ℤ pos 2) +ℤ below

-- the sums over all chains of calls from a procedure on
pub data Use (code : Code) : Procedure → ℤ → Type 0 where
  last : (p : Procedure) (bytes : ℤ) → EndsChain code p bytes → Use code p bytes
  through : (p : Procedure) (target : ℕ) (below bytes : ℤ) → Use code (Entry target) below → Chains code p target below bytes →
      Use code p bytes

-- the greatest of the sums
pub record IsBound (code : Code) (p : Procedure) (bytes : ℕ) : Type 0 where
  pub above : (sum : ℤ) → Use code p sum → sum ≤ℤ pos bytes
  pub reached : Use code p (pos bytes)
