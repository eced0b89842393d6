-- Chains of calls, and what they add up to. (This project's own.)
use Rattle.std.specs.Prelude.{◌≡◌, ℕ, ℤ, pos, ◌+ℤ◌, List, [], ◌∷◌}
use Rattle.frames80.specs.StackFrame.{StackFrame}
use Rattle.frames80.specs.Calls.{depth_of}
use Rattle.verify80_bounds.specs.declared.graph.CallSite.{CallSite}
use Rattle.frames80.specs.declared.procedure.Procedure.{Procedure}
use Rattle.frames80.specs.declared.procedure.Procedure.TheVariants.{Main, Entry}
use Rattle.frames80.specs.Code.{Code, role_of}
use Rattle.verify80_flow.specs.Walks.{Calls, Walk}
use Rattle.verify80_flow.specs.Use.{Use}
use Rattle.verify80_explain.specs.declared.chain.Chain.{Chain}
use Rattle.verify80_explain.specs.declared.chain.Standing.{Standing}

-- a walk of the procedure is there, with this depth
pub record StandsAt (code : Code) (standing : Standing) : Type 0 where
  pub frame : StackFrame
  pub walk : Walk code standing.procedure standing.at frame
  pub depth : standing.depth ≡ depth_of (role_of code standing.procedure) frame

-- a walk of the caller is at the call, with this depth
pub record CallsAt (code : Code) (call : CallSite) : Type 0 where
  pub frame : StackFrame
  pub next : ℕ
  pub walk : Walk code call.caller call.at frame
  pub calls : Calls code call.caller call.at frame call.target next
  pub depth : call.depth ≡ depth_of (role_of code call.caller) frame

-- calls lead from a procedure to where the last one stands, and the depths add up to a sum, with two bytes for each return address
abbrev pub IsChain : Code → Procedure → List CallSite → Standing → ℤ → Type 0
IsChain code p [] last sum = (last.procedure ≡ p) × StandsAt code last × (sum ≡ last.depth)
IsChain code p (call ∷ rest) last sum = (call.caller ≡ p) × CallsAt code call
    × ((below : ℤ) × IsChain code (Entry call.target) rest last below × (sum ≡ (call.depth +ℤ pos 2) +ℤ below))

-- the chain is the main program's, and adds up to a given number of bytes
abbrev pub ChainsTo : Code → ℕ → Chain → Type 0
ChainsTo code bytes chain = IsChain code Main chain.calls.items chain.last (pos bytes)

-- a chain is a use of the stack, in the bound's words
abbrev pub ChainsAreUses : Type 0
ChainsAreUses = (code : Code) (bytes : ℕ) (chain : Chain) → ChainsTo code bytes chain → Use code Main (pos bytes)
