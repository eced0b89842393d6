-- What a fitting table says of all walks. (This project's own.)
use Rattle.std.specs.Prelude.{◌≤◌, ℕ}
use Rattle.frames80.specs.declared.fault.FrameFault.{FrameFault}
use Rattle.frames80.specs.StackFrame.{StackFrame}
use Rattle.frames80.specs.declared.procedure.Procedure.{Procedure}
use Rattle.frames80.specs.declared.code.LookFault.{LookFault}
use Rattle.frames80.specs.Code.{Code}
use Rattle.verify80_flow.specs.Walks.{Walk}
use Rattle.verify80_flow.specs.Faults.{LooksWrong, MovesWrong, Differ, Uneven, Short}
use Rattle.verify80_flow.specs.Fitting.{Table, Has, Fits}

-- every walk is covered by a frame of the table, and takes no more words than its procedure wants
abbrev pub CoversWalks : Type 0
CoversWalks = (code : Code) (table : Table) → Fits code table → (p : Procedure) (at : ℕ) (f : StackFrame) → Walk code p at f →
    Has table p at f

abbrev pub WantsEnough : Type 0
WantsEnough = (code : Code) (table : Table) → Fits code table → (p : Procedure) (at : ℕ) (f : StackFrame) → Walk code p at f →
    f.taken ≤ table.wants p

-- no walk is at a fault: at an instruction that is not admissible, at one that its frame forbids, at a point where another
-- walk has other counts, at a return where another return has taken another number of words, at a call without the words
-- that the callee takes
pub record NoFault (code : Code) : Type 0 where
  pub look : (at : ℕ) (fault : LookFault) → LooksWrong code at fault → ⊥
  pub move : (at : ℕ) (fault : FrameFault) → MovesWrong code at fault → ⊥
  pub differ : (at : ℕ) → Differ code at → ⊥
  pub uneven : (at : ℕ) → Uneven code at → ⊥
  pub short : (at : ℕ) → Short code at → ⊥

abbrev pub KeepsFromFaults : Type 0
KeepsFromFaults = (code : Code) (table : Table) → Fits code table → NoFault code
