-- The calls of a program and the depths of its procedures' frames, as lists. (This project's own.)
use Rattle.std.specs.Prelude.{◌≡◌, ℕ, ℤ, List, Any, All}
use Rattle.frames80.specs.StackFrame.{StackFrame}
use Rattle.frames80.specs.Calls.{depth_of}
use Rattle.frames80.specs.declared.procedure.Procedure.{Procedure}
use Rattle.verify80_bounds.specs.declared.graph.Depth.{Depth}
use Rattle.verify80_bounds.specs.declared.graph.CallSite.{CallSite}
use Rattle.frames80.specs.Code.{Code, role_of}
use Rattle.verify80_flow.specs.Walks.{Walk, Calls}
use Rattle.verify80_flow.specs.Use.{IsBound}
use Rattle.verify80_flow.specs.Faults.{Recurs}
use Rattle.verify80_bounds.specs.Chains.{bytes_of}

-- a walk of the procedure has this depth
pub record HasDepth (code : Code) (p : Procedure) (depth : ℤ) : Type 0 where
  pub at : ℕ
  pub frame : StackFrame
  pub walk : Walk code p at frame
  pub is : depth ≡ depth_of (role_of code p) frame

-- a walk of the procedure calls the target at this address, with this depth
pub record HasCall (code : Code) (p : Procedure) (at : ℕ) (depth : ℤ) (target : ℕ) : Type 0 where
  pub next : ℕ
  pub frame : StackFrame
  pub walk : Walk code p at frame
  pub call : Calls code p at frame target next
  pub is : depth ≡ depth_of (role_of code p) frame

-- the lists are those of the program's walks: each entry is a walk's, and each walk has its entry
pub record IsGraph (code : Code) (depths : List Depth) (calls : List CallSite) : Type 0 where
  pub depth : All (λ (d : Depth). HasDepth code d.procedure d.depth) depths
  pub every_depth : (p : Procedure) (depth : ℤ) → HasDepth code p depth →
      Any (λ (d : Depth). (d.procedure ≡ p) × (d.depth ≡ depth)) depths
  pub call : All (λ (c : CallSite). HasCall code c.caller c.at c.depth c.target) calls
  pub every_call : (p : Procedure) (at : ℕ) (depth : ℤ) (target : ℕ) → HasCall code p at depth target →
      Any (λ (c : CallSite). (c.caller ≡ p) × (c.target ≡ target) × (c.depth ≡ depth)) calls

-- the bytes of each procedure that has a walk are its bound
pub record AreBounds (code : Code) (bytes : List ℕ) : Type 0 where
  pub bound : (p : Procedure) (at : ℕ) (frame : StackFrame) → Walk code p at frame → IsBound code p (bytes_of bytes p)

-- no call of the program recurs
pub record NoneRecurs (code : Code) : Type 0 where
  pub none : (at : ℕ) → Recurs code at → ⊥
