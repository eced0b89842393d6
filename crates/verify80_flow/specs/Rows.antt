-- What a report says of each procedure, over its walks. (The words that a procedure takes and wants, and the bytes that it
-- needs, are this project's own; the convention is that of the PL/M-80 manuals.)
use Rattle.std.specs.Prelude.{◌≡◌, ◌≤◌, ◌<◌, ℕ, true, false, List, All, AllPairs, Any}
use Rattle.frames80.specs.StackFrame.{StackFrame}
use Rattle.frames80.specs.declared.procedure.Procedure.{Procedure}
use Rattle.frames80.specs.declared.procedure.Procedure.TheVariants.{Entry}
use Rattle.verify80_flow.specs.declared.report.ProcRow.{ProcRow}
use Rattle.frames80.specs.Code.{Code}
use Rattle.verify80_flow.specs.Walks.{Walk, Returns}
use Rattle.verify80_flow.specs.Use.{IsBound}

-- a walk goes through the procedure
pub record Occurs (code : Code) (p : Procedure) : Type 0 where
  pub at : ℕ
  pub frame : StackFrame
  pub walk : Walk code p at frame

-- a walk of the procedure returns with a given number of words taken
pub record ReturnsWith (code : Code) (p : Procedure) (taken : ℕ) : Type 0 where
  pub at : ℕ
  pub frame : StackFrame
  pub walk : Walk code p at frame
  pub returns : Returns code p at frame taken

-- the most words that are taken on its walks
pub record Wants (code : Code) (p : Procedure) (most : ℕ) : Type 0 where
  pub above : (at : ℕ) (f : StackFrame) → Walk code p at f → f.taken ≤ most
  pub at : ℕ
  pub frame : StackFrame
  pub walk : Walk code p at frame
  pub reached : frame.taken ≡ most

-- a row says what holds of its procedure
pub record IsRow (code : Code) (row : ProcRow) : Type 0 where
  pub wants : Wants code (Entry row.entry) row.wants
  pub bound : IsBound code (Entry row.entry) row.bound
  pub returns : row.returns ≡ true → ReturnsWith code (Entry row.entry) row.takes
  pub never : row.returns ≡ false → (row.takes ≡ 0) × ((taken : ℕ) → ReturnsWith code (Entry row.entry) taken → ⊥)

-- the rows are the procedures that occur but the main program, by entry
pub record AreRows (code : Code) (rows : List ProcRow) : Type 0 where
  pub each : All (λ row. IsRow code row) rows
  pub all : (entry : ℕ) → Occurs code (Entry entry) → Any (λ (row : ProcRow). row.entry ≡ entry) rows
  pub by_entry : AllPairs (λ (a b : ProcRow). a.entry < b.entry) rows
