-- What is known of a program that is measured, and of one that is accepted. (This project's own.)
use Rattle.std.specs.Prelude.{◌≢◌, ◌≤◌, ℕ, List}
use Rattle.frames80.specs.declared.procedure.Procedure.TheVariants.{Main}
use Rattle.verify80_flow.specs.declared.refusal.Refusal.{Refusal}
use Rattle.verify80_flow.specs.declared.refusal.Refusal.TheVariants.{Memory}
use Rattle.verify80_flow.specs.declared.report.ProcRow.{ProcRow}
use Rattle.verify80_flow.specs.declared.report.Analysis.{Analysis}
use Rattle.frames80.specs.Code.{Code}
use Rattle.verify80_flow.specs.Use.{IsBound}
use Rattle.verify80_flow.specs.Faults.{Holds, HoldsAnyway}
use Rattle.verify80_flow.specs.Fitting.{IsFitted}
use Rattle.verify80_flow.specs.Rows.{AreRows}
use Rattle.verify80_flow.specs.ProgramPoints.{ArePoints}

-- a table of frames fits the program with a given number of bytes of stack, which are the most that a chain of its calls uses; the rows are
-- those of its procedures; and no refusal holds of it, but that the stack may be too small
pub record IsMeasured (code : Code) (listed : List ProcRow) (bytes : ℕ) : Type 0 where
  pub fitted : IsFitted code bytes
  pub bound : IsBound code Main bytes
  pub rows : AreRows code listed
  pub none_holds : (refusal : Refusal) → refusal ≢ Memory → HoldsAnyway code refusal → ⊥

-- a table of frames fits the program with a given number of bytes of stack, which are the most that a chain of its calls uses and no more
-- than there are; the rows are those of its procedures; and no refusal holds of it
pub record IsAccepted (code : Code) (listed : List ProcRow) (bytes : ℕ) : Type 0 where
  pub fitted : IsFitted code bytes
  pub bound : IsBound code Main bytes
  pub within : bytes ≤ code.stack
  pub rows : AreRows code listed
  pub none_holds : (refusal : Refusal) → refusal ≢ Memory → Holds code refusal → ⊥

-- what is found of a program that is measured, with the points of its walks
pub record IsAnalysis (code : Code) (found : Analysis) : Type 0 where
  pub measured : IsMeasured code found.report.procedures.items found.report.stack_bytes
  pub points : ArePoints code found.points.items
