-- The walks of a program's procedures: every way that a procedure may be gone through, with the frame that it has at each
-- point. Frames are never merged here, and there is no order in which points are visited. (This project's own.)
use Rattle.std.specs.Prelude.{◌≡◌, ◌≤◌, ◌⊎◌, ℕ, List, Contains, Option, Some, None, Ok}
use Rattle.decode80.specs.declared.fetching.Fetched.{Fetched}
use Rattle.frames80.specs.declared.moves.Moves.{Moves}
use Rattle.frames80.specs.declared.moves.Moves.TheVariants.{End, On, Jump, Either, Case, Call, MaybeCall, Return, MaybeReturn}
use Rattle.frames80.specs.StackFrame.{StackFrame, entry_frame, main_frame}
use Rattle.frames80.specs.Effects.{effect_of}
use Rattle.frames80.specs.Moves.{moves_of}
use Rattle.frames80.specs.Calls.{room, returned}
use Rattle.frames80.specs.declared.procedure.Procedure.{Procedure}
use Rattle.frames80.specs.declared.procedure.Procedure.TheVariants.{Main, Entry}
use Rattle.frames80.specs.Code.{Code, role_of}

-- with this frame at this address, the instruction there is admissible, and has these moves
pub record Moving (code : Code) (p : Procedure) (at : ℕ) (f : StackFrame) (found : Fetched) (moves : Moves) : Type 0 where
  pub looked : code.look at ≡ Ok found
  pub moved : moves_of (role_of code p) (effect_of found.instr) f ≡ Ok moves

-- where a move leads in its own procedure, calls aside: to the next instruction, to an address, to either, or to any of the
-- targets that are declared for its instruction
abbrev pub LeadsTo : Moves → (targets : List ℕ) → (next to : ℕ) → StackFrame → Type 0
LeadsTo (On f) targets next to g = (to ≡ next) × (g ≡ f)
LeadsTo (Jump f address) targets next to g = (to ≡ address) × (g ≡ f)
LeadsTo (Either f address) targets next to g = ((to ≡ next) ⊎ (to ≡ address)) × (g ≡ f)
LeadsTo (Case f) targets next to g = Contains targets to × (g ≡ f)
LeadsTo (MaybeCall f _) targets next to g = (to ≡ next) × (g ≡ f)
LeadsTo (MaybeReturn f _) targets next to g = (to ≡ next) × (g ≡ f)
LeadsTo End targets next to g = ⊥
LeadsTo (Call _ _) targets next to g = ⊥
LeadsTo (Return _) targets next to g = ⊥

-- the address that a move calls
abbrev pub called : Moves → Option ℕ
called (Call _ target) = Some target
called (MaybeCall _ target) = Some target
called End = None
called (On _) = None
called (Jump _ _) = None
called (Either _ _) = None
called (Case _) = None
called (Return _) = None
called (MaybeReturn _ _) = None

-- with how many words taken a move returns
abbrev pub returning : Moves → Option ℕ
returning (Return taken) = Some taken
returning (MaybeReturn _ taken) = Some taken
returning End = None
returning (On _) = None
returning (Jump _ _) = None
returning (Either _ _) = None
returning (Case _) = None
returning (Call _ _) = None
returning (MaybeCall _ _) = None

-- the main program begins at the start, with no words
pub record Begins (code : Code) (p : Procedure) (at : ℕ) (f : StackFrame) : Type 0 where
  pub procedure : p ≡ Main
  pub start : at ≡ code.start
  pub frame : f ≡ main_frame

-- an instruction leads on
pub record GoesOn (code : Code) (p : Procedure) (at : ℕ) (f : StackFrame) (to : ℕ) (g : StackFrame) : Type 0 where
  pub found : Fetched
  pub moves : Moves
  pub moving : Moving code p at f found moves
  pub leads : LeadsTo moves (code.targets at) found.next to g

-- an instruction calls a procedure, and would come back to an address
pub record Calls (code : Code) (p : Procedure) (at : ℕ) (f : StackFrame) (target next : ℕ) : Type 0 where
  pub found : Fetched
  pub moves : Moves
  pub moving : Moving code p at f found moves
  pub call : called moves ≡ Some target
  pub after : next ≡ found.next

-- a procedure that is called is entered with its return address alone
pub record Enters (target : ℕ) (p : Procedure) (at : ℕ) (f : StackFrame) : Type 0 where
  pub procedure : p ≡ Entry target
  pub start : at ≡ target
  pub frame : f ≡ entry_frame

-- an instruction returns, with a given number of words taken
pub record Returns (code : Code) (p : Procedure) (at : ℕ) (f : StackFrame) (taken : ℕ) : Type 0 where
  pub found : Fetched
  pub moves : Moves
  pub moving : Moving code p at f found moves
  pub return : returning moves ≡ Some taken

-- the caller has the words that its callee has taken above its bottom word (the main program: has them), and goes on
-- without them
pub record GoesOnAfter (code : Code) (p : Procedure) (f : StackFrame) (taken : ℕ) (g : StackFrame) : Type 0 where
  pub enough : taken ≤ room (role_of code p) f.words
  pub frame : g ≡ returned taken f

-- the walks: a walk of this procedure can reach this address with this frame
pub data Walk (code : Code) : Procedure → ℕ → StackFrame → Type 0 where
  begins : (p : Procedure) (at : ℕ) (f : StackFrame) → Begins code p at f → Walk code p at f
  goes_on : (p : Procedure) (at : ℕ) (f : StackFrame) (to : ℕ) (g : StackFrame) →
      Walk code p at f → GoesOn code p at f to g → Walk code p to g
  enters : (p : Procedure) (at : ℕ) (f : StackFrame) (target next : ℕ) (q : Procedure) (start : ℕ) (g : StackFrame) →
      Walk code p at f → Calls code p at f target next → Enters target q start g → Walk code q start g
  comes_back : (p : Procedure) (at : ℕ) (f : StackFrame) (target next exit : ℕ) (h : StackFrame) (taken : ℕ) (g : StackFrame) →
      Walk code p at f → Calls code p at f target next →
      Walk code (Entry target) exit h → Returns code (Entry target) exit h taken →
      GoesOnAfter code p f taken g → Walk code p next g
