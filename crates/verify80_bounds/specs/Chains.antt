-- The bytes of stack over chains of calls, from the depths of a program's frames and its calls. (This project's own.)
use Rattle.std.specs.Prelude.{◌≡◌, ◌+◌, ℕ, ℤ, pos, negsuc, ◌+ℤ◌, ◌≤ℤ◌, List, Contains, slice_index}
use Rattle.frames80.specs.declared.procedure.Procedure.{Procedure}
use Rattle.frames80.specs.declared.procedure.Procedure.TheVariants.{Entry}
use Rattle.frames80.specs.Procedures.{slot_of}
use Rattle.verify80_bounds.specs.declared.graph.Depth.{Depth}
use Rattle.verify80_bounds.specs.declared.graph.CallSite.{CallSite}
use Rattle.verify80_bounds.specs.declared.fault.BoundsFault.{BoundsFault}
use Rattle.verify80_bounds.specs.declared.fault.BoundsFault.TheVariants.{Recursion, Memory}

-- the bytes that a table has for a procedure
abbrev pub bytes_of : List ℕ → Procedure → ℕ
bytes_of sums p = slice_index sums (slot_of p)

-- the list has this depth for the procedure
pub record HasLast (depths : List Depth) (p : Procedure) (bytes : ℤ) : Type 0 where
  pub depth : Depth
  pub there : Contains depths depth
  pub procedure : depth.procedure ≡ p
  pub is : bytes ≡ depth.depth

-- the call is one of the list's, and the procedure's
pub record CallsBy (calls : List CallSite) (p : Procedure) (call : CallSite) : Type 0 where
  pub there : Contains calls call
  pub caller : call.caller ≡ p

-- what a chain uses that goes through a call, when the callee uses a number of bytes
abbrev pub through_call : CallSite → ℤ → ℤ
through_call call below = (call.depth +ℤ pos 2) +ℤ below

-- the sums over chains of the lists' calls
pub data Chain (depths : List Depth) (calls : List CallSite) : Procedure → ℤ → Type 0 where
  last : (p : Procedure) (bytes : ℤ) → HasLast depths p bytes → Chain depths calls p bytes
  through : (p : Procedure) (call : CallSite) (below bytes : ℤ) → CallsBy calls p call →
      Chain depths calls (Entry call.target) below →
      bytes ≡ through_call call below → Chain depths calls p bytes

-- the lists' calls lead from one procedure to another
pub data Reaches (calls : List CallSite) : Procedure → Procedure → Type 0 where
  here : (p q : Procedure) → p ≡ q → Reaches calls p q
  further : (p q r : Procedure) (call : CallSite) → Reaches calls p q → CallsBy calls q call → r ≡ Entry call.target →
      Reaches calls p r

-- a call at this address whose callee leads back to its caller
pub record Cycles (calls : List CallSite) (at : ℕ) : Type 0 where
  pub call : CallSite
  pub there : Contains calls call
  pub is : at ≡ call.at
  pub back : Reaches calls (Entry call.target) call.caller

-- each callee is entered, with no bytes yet
pub record AreEntered (depths : List Depth) (calls : List CallSite) : Type 0 where
  pub entered : (call : CallSite) → Contains calls call → HasLast depths (Entry call.target) (pos 0)

-- a depth that the analysis may meet
pub record IsModest (depth : ℤ) : Type 0 where
  pub low : negsuc 2097151 ≤ℤ depth
  pub high : depth ≤ℤ pos 2097152

-- the greatest of the sums from a procedure on
pub record IsGreatest (depths : List Depth) (calls : List CallSite) (p : Procedure) (bytes : ℕ) : Type 0 where
  pub above : (sum : ℤ) → Chain depths calls p sum → sum ≤ℤ pos bytes
  pub reached : Chain depths calls p (pos bytes)

-- a table has the greatest sum of each procedure that is entered
pub record AreGreatest (depths : List Depth) (calls : List CallSite) (bytes : List ℕ) : Type 0 where
  pub greatest : (p : Procedure) → HasLast depths p (pos 0) → IsGreatest depths calls p (bytes_of bytes p)

-- a fault holds of the calls. (Nothing is said of running out of memory.)
abbrev pub IsFault : List CallSite → BoundsFault → Type 0
IsFault calls (Recursion at) = Cycles calls at
IsFault calls Memory = Unit {0}
