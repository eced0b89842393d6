-- A table of frames that fits a program: one frame for each point that is reached, such that each way on leads to a frame of
-- the table with the same counts, in which only a return address may have become any word. The runs of an accepted program
-- are followed along such a table. (This project's own.)
use Rattle.std.specs.Prelude.{◌≡◌, ◌≤◌, ℕ, pos, ◌+ℤ◌, ◌≤ℤ◌, Option, Some}
use Rattle.decode80.specs.declared.fetching.Fetched.{Fetched}
use Rattle.frames80.specs.declared.moves.Moves.{Moves}
use Rattle.frames80.specs.StackFrame.{StackFrame, entry_frame, main_frame}
use Rattle.frames80.specs.Calls.{room, returned, depth_of}
use Rattle.frames80.specs.Places.{Covers}
use Rattle.frames80.specs.declared.procedure.Procedure.{Procedure}
use Rattle.frames80.specs.declared.procedure.Procedure.TheVariants.{Main, Entry}
use Rattle.frames80.specs.Code.{Code, role_of}
use Rattle.verify80_flow.specs.Walks.{Moving, LeadsTo, called, returning}

-- frames by procedure and address, and for each procedure how many words it takes where it returns, how many it wants, and
-- how many bytes of stack it needs below its return address
pub record Table : Type 0 where
  pub frame : Procedure → ℕ → Option StackFrame
  pub takes : Procedure → Option ℕ
  pub wants : Procedure → ℕ
  pub bound : Procedure → ℕ

-- the table has a frame at the point that covers this one
pub record Has (table : Table) (p : Procedure) (at : ℕ) (g : StackFrame) : Type 0 where
  pub frame : StackFrame
  pub there : table.frame p at ≡ Some frame
  pub covers : Covers frame g

-- a frame of the table closes: its instruction may be executed, and each way on leads into the table, through calls too
pub record FrameCloses (code : Code) (table : Table) (p : Procedure) (at : ℕ) (f : StackFrame) : Type 0 where
  pub found : Fetched
  pub moves : Moves
  pub moving : Moving code p at f found moves
  pub on : (to : ℕ) (g : StackFrame) → LeadsTo moves (code.targets at) found.next to g → Has table p to g
  pub enters : (target : ℕ) → called moves ≡ Some target → Has table (Entry target) target entry_frame
  pub after : (target taken : ℕ) → called moves ≡ Some target → table.takes (Entry target) ≡ Some taken →
      Has table p found.next (returned taken f)
  pub return : (taken : ℕ) → returning moves ≡ Some taken → table.takes p ≡ Some taken

-- the table closes: the start is in it, and each of its frames closes
pub record Closes (code : Code) (table : Table) : Type 0 where
  pub start : Has table Main code.start main_frame
  pub frames : (p : Procedure) (at : ℕ) (f : StackFrame) → table.frame p at ≡ Some f → FrameCloses code table p at f

-- a call fits: the callee is entered in the table, the caller has the words that it wants and the stack that it needs, and
-- where the callee returns, the caller goes on without the words that it takes
pub record CallFits (code : Code) (table : Table) (p : Procedure) (next : ℕ) (f : StackFrame) (target : ℕ) : Type 0 where
  pub enters : Has table (Entry target) target entry_frame
  pub words : table.wants (Entry target) ≤ room (role_of code p) f.words
  pub bytes : ((depth_of (role_of code p) f +ℤ pos 2) +ℤ pos (table.bound (Entry target))) ≤ℤ pos (table.bound p)
  pub after : (taken : ℕ) → table.takes (Entry target) ≡ Some taken → Has table p next (returned taken f)

-- a frame of the table fits: its instruction may be executed, and each way on leads into the table
pub record FrameFits (code : Code) (table : Table) (p : Procedure) (at : ℕ) (f : StackFrame) : Type 0 where
  pub found : Fetched
  pub moves : Moves
  pub moving : Moving code p at f found moves
  pub on : (to : ℕ) (g : StackFrame) → LeadsTo moves (code.targets at) found.next to g → Has table p to g
  pub call : (target : ℕ) → called moves ≡ Some target → CallFits code table p found.next f target
  pub return : (taken : ℕ) → returning moves ≡ Some taken → table.takes p ≡ Some taken
  pub wants : f.taken ≤ table.wants p
  pub depth : depth_of (role_of code p) f ≤ℤ pos (table.bound p)

pub record Fits (code : Code) (table : Table) : Type 0 where
  pub start : Has table Main code.start main_frame
  pub frames : (p : Procedure) (at : ℕ) (f : StackFrame) → table.frame p at ≡ Some f → FrameFits code table p at f

-- there is a fitting table in which the main program needs a given number of bytes
pub record IsFitted (code : Code) (bytes : ℕ) : Type 0 where
  pub table : Table
  pub fits : Fits code table
  pub printed : table.bound Main ≡ bytes
