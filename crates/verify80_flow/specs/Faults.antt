-- When a refusal holds of a program: over its walks, which are never merged. (This project's own.)
use Rattle.std.specs.Prelude.{◌≡◌, ◌≢◌, ◌<◌, ◌+◌, ℕ, false, Ok, Err}
use Rattle.decode80.specs.declared.fetching.Fetched.{Fetched}
use Rattle.frames80.specs.declared.fault.FrameFault.{FrameFault}
use Rattle.frames80.specs.declared.fault.FrameFault.TheVariants.{Sphl as FrameSphl, StackByByte as FrameStackByByte, SetsStack as FrameSetsStack}
use Rattle.frames80.specs.declared.fault.FrameFault.TheVariants.{PopsBelow as FramePopsBelow, ReturnNotOwn as FrameReturnNotOwn, ReturnFromMain as FrameReturnFromMain}
use Rattle.frames80.specs.StackFrame.{StackFrame}
use Rattle.frames80.specs.Effects.{effect_of}
use Rattle.frames80.specs.Moves.{moves_of}
use Rattle.frames80.specs.Calls.{room, agree}
use Rattle.frames80.specs.declared.procedure.Procedure.{Procedure}
use Rattle.frames80.specs.declared.procedure.Procedure.TheVariants.{Main, Entry}
use Rattle.verify80_flow.specs.declared.refusal.Refusal.{Refusal}
use Rattle.verify80_flow.specs.declared.refusal.Refusal.TheVariants.{FetchOutside, UnusedOpcode, EnablesInterrupts, Sphl, Pchl, StackByByte, SetsStack}
use Rattle.verify80_flow.specs.declared.refusal.Refusal.TheVariants.{DirectStore, PopsBelow, ReturnNotOwn, ReturnFromMain, HeightsDiffer, UnevenArguments}
use Rattle.verify80_flow.specs.declared.refusal.Refusal.TheVariants.{ShortArguments, Recursion, StackTooSmall, TooManyPoints, Memory}
use Rattle.frames80.specs.declared.code.LookFault.{LookFault}
use Rattle.frames80.specs.declared.code.LookFault.TheVariants.{Outside, Unused, EnablesInterrupts as LooksAtEi, Pchl as LooksAtPchl, DirectStore as LooksAtStore}
use Rattle.frames80.specs.Code.{Code, role_of}
use Rattle.verify80_flow.specs.Walks.{Walk, Calls, Returns}
use Rattle.verify80_flow.specs.Use.{IsBound}

-- a walk reaches an address that holds no admissible instruction
pub record LooksWrong (code : Code) (at : ℕ) (fault : LookFault) : Type 0 where
  pub procedure : Procedure
  pub frame : StackFrame
  pub walk : Walk code procedure at frame
  pub looked : code.look at ≡ Err fault

-- a walk reaches an instruction that may not be executed with its frame
pub record MovesWrong (code : Code) (at : ℕ) (fault : FrameFault) : Type 0 where
  pub procedure : Procedure
  pub frame : StackFrame
  pub found : Fetched
  pub walk : Walk code procedure at frame
  pub looked : code.look at ≡ Ok found
  pub moved : moves_of (role_of code procedure) (effect_of found.instr) frame ≡ Err fault

-- two walks reach one point with different counts
pub record Differ (code : Code) (at : ℕ) : Type 0 where
  pub procedure : Procedure
  pub one : StackFrame
  pub other : StackFrame
  pub walk_one : Walk code procedure at one
  pub walk_other : Walk code procedure at other
  pub differ : agree one other ≡ false

-- two returns of one procedure have taken different numbers of words
pub record Uneven (code : Code) (at : ℕ) : Type 0 where
  pub procedure : Procedure
  pub other : ℕ
  pub frame : StackFrame
  pub other_frame : StackFrame
  pub taken : ℕ
  pub other_taken : ℕ
  pub walk : Walk code procedure at frame
  pub returns : Returns code procedure at frame taken
  pub walk_other : Walk code procedure other other_frame
  pub returns_other : Returns code procedure other other_frame other_taken
  pub differ : taken ≢ other_taken

-- a walk at a call has fewer words than a walk of the callee has taken
pub record Short (code : Code) (at : ℕ) : Type 0 where
  pub procedure : Procedure
  pub frame : StackFrame
  pub target : ℕ
  pub next : ℕ
  pub inside : ℕ
  pub callee : StackFrame
  pub walk : Walk code procedure at frame
  pub call : Calls code procedure at frame target next
  pub walk_callee : Walk code (Entry target) inside callee
  pub short : room (role_of code procedure) frame.words < callee.taken

-- one procedure calls another, on some walk
pub record CallsFrom (code : Code) (p : Procedure) (target : ℕ) : Type 0 where
  pub at : ℕ
  pub frame : StackFrame
  pub next : ℕ
  pub walk : Walk code p at frame
  pub call : Calls code p at frame target next

-- calls lead from one procedure to another, in no, one or more steps
pub data Leads (code : Code) : Procedure → Procedure → Type 0 where
  here : (p q : Procedure) → p ≡ q → Leads code p q
  further : (p q r : Procedure) (target : ℕ) → Leads code p q → CallsFrom code q target → r ≡ Entry target → Leads code p r

-- a walk is at a call whose callee leads back to the caller
pub record Recurs (code : Code) (at : ℕ) : Type 0 where
  pub procedure : Procedure
  pub frame : StackFrame
  pub target : ℕ
  pub next : ℕ
  pub walk : Walk code procedure at frame
  pub call : Calls code procedure at frame target next
  pub back : Leads code (Entry target) procedure

-- the program needs more of the stack than there is
pub record Overruns (code : Code) (need has : ℕ) : Type 0 where
  pub agrees : (at : ℕ) → Differ code at → ⊥
  pub ends : (at : ℕ) → Recurs code at → ⊥
  pub bound : IsBound code Main need
  pub stack : has ≡ code.stack
  pub less : has < need

-- a given number of different points occur: the points are numbered, and no two numbers have one point
pub record Many (code : Code) (most : ℕ) : Type 0 where
  pub procedure : ℕ → Procedure
  pub at : ℕ → ℕ
  pub frame : ℕ → StackFrame
  pub walk : (n : ℕ) → n < most → Walk code (procedure n) (at n) (frame n)
  pub apart : (n m : ℕ) → n < most → m < most → procedure n ≡ procedure m → at n ≡ at m → n ≡ m

-- how many points are visited
abbrev pub most_points : ℕ
most_points = 262144

-- the refusal holds: it names a fault that is there. (Nothing is said of running out of memory.)
abbrev pub Holds : Code → Refusal → Type 0
Holds code (FetchOutside at) = LooksWrong code at Outside
Holds code (UnusedOpcode at) = LooksWrong code at Unused
Holds code (EnablesInterrupts at) = LooksWrong code at LooksAtEi
Holds code (DirectStore at) = LooksWrong code at LooksAtStore
Holds code (Sphl at) = MovesWrong code at FrameSphl
Holds code (Pchl at) = LooksWrong code at LooksAtPchl
Holds code (StackByByte at) = MovesWrong code at FrameStackByByte
Holds code (SetsStack at) = MovesWrong code at FrameSetsStack
Holds code (PopsBelow at) = MovesWrong code at FramePopsBelow
Holds code (ReturnNotOwn at) = MovesWrong code at FrameReturnNotOwn
Holds code (ReturnFromMain at) = MovesWrong code at FrameReturnFromMain
Holds code (HeightsDiffer at) = Differ code at
Holds code (UnevenArguments at) = Uneven code at
Holds code (ShortArguments at) = Short code at
Holds code (Recursion at) = Recurs code at
Holds code (StackTooSmall need has) = Overruns code need has
Holds code TooManyPoints = Many code (most_points + 1)
Holds code Memory = Unit {0}

-- the refusal holds however large the stack is; that it is too small doesn't
abbrev pub HoldsAnyway : Code → Refusal → Type 0
HoldsAnyway code (StackTooSmall need has) = ⊥
HoldsAnyway code refusal = Holds code refusal
