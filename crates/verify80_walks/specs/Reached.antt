-- Points, each of which comes from earlier ones, as its origin says. (This project's own.)
use Rattle.std.specs.Prelude.{◌≡◌, ◌<◌, ◌≤◌, ◌∷◌, ℕ, List, length, slice_get, Some, Ok, Err}
use Rattle.decode80.specs.declared.fetching.Fetched.{Fetched}
use Rattle.frames80.specs.declared.fault.FrameFault.{FrameFault}
use Rattle.frames80.specs.declared.moves.Moves.{Moves}
use Rattle.frames80.specs.StackFrame.{StackFrame}
use Rattle.frames80.specs.Effects.{effect_of}
use Rattle.frames80.specs.Moves.{moves_of}
use Rattle.frames80.specs.Calls.{room, returned}
use Rattle.frames80.specs.declared.role.Role.{Role}
use Rattle.frames80.specs.declared.procedure.Procedure.TheVariants.{Entry}
use Rattle.frames80.specs.Code.{Code, role_of}
use Rattle.verify80_flow.specs.Walks.{Begins as BeginsAt, Calls, Enters as EntersAt, GoesOnAfter, Moving, Returns}
use Rattle.verify80_walks.specs.declared.point.Point.{Point}
use Rattle.verify80_walks.specs.declared.search.Origin.{Origin}
use Rattle.verify80_walks.specs.declared.search.Origin.TheVariants.{Begins, GoesOn, Enters, ComesBack}
use Rattle.verify80_walks.specs.declared.looked.Looked.{Looked}
use Rattle.verify80_walks.specs.declared.looked.Looked.TheVariants.{Wrong, Stuck, Moved}
use Rattle.verify80_walks.specs.Ways.{IsWalked, LeadsOn}

-- the instruction at a point may not be executed with the frame there
pub record IsStuck (code : Code) (point : Point) (fault : FrameFault) : Type 0 where
  pub found : Fetched
  pub looked : code.look point.at ≡ Ok found
  pub moved : moves_of (role_of code point.procedure) (effect_of found.instr) point.frame ≡ Err fault

-- the instruction at a point leads on so, and this is the address after it
pub record IsMoving (code : Code) (point : Point) (moves : Moves) (next : ℕ) : Type 0 where
  pub found : Fetched
  pub moving : Moving code point.procedure point.at point.frame found moves
  pub after : next ≡ found.next

-- what a look at a point finds
abbrev pub IsLooked : Code → Point → Looked → Type 0
IsLooked code point (Wrong fault) = code.look point.at ≡ Err fault
IsLooked code point (Stuck fault) = IsStuck code point fault
IsLooked code point (Moved moves next) = IsMoving code point moves next

-- the caller's frame when a callee has returned that took a given number of words
pub record IsBack (role : Role) (taken : ℕ) (f g : StackFrame) : Type 0 where
  pub enough : taken ≤ room role f.words
  pub frame : g ≡ returned taken f

-- an earlier point, of which this holds
pub record Before (points : List Point) (n i : ℕ) (There : Point → Type 0) : Type 0 where
  pub earlier : i < n
  pub point : Point
  pub is : slice_get points i ≡ Some point
  pub there : There point

-- a point calls the procedure that is entered at another
pub record EntersFrom (code : Code) (one other : Point) : Type 0 where
  pub target : ℕ
  pub next : ℕ
  pub call : Calls code one.procedure one.at one.frame target next
  pub enter : EntersAt target other.procedure other.at other.frame

-- a point calls a procedure that returns from a second one, and goes on at a third
pub record BackFrom (code : Code) (one callee other : Point) : Type 0 where
  pub procedure : other.procedure ≡ one.procedure
  pub target : ℕ
  pub taken : ℕ
  pub call : Calls code one.procedure one.at one.frame target other.at
  pub inside : callee.procedure ≡ Entry target
  pub return : Returns code callee.procedure callee.at callee.frame taken
  pub after : GoesOnAfter code one.procedure one.frame taken other.frame

-- a point comes from where its origin says
abbrev pub Comes : Code → List Point → ℕ → Point → Origin → Type 0
Comes code points n point Begins = BeginsAt code point.procedure point.at point.frame
Comes code points n point (GoesOn i) = Before points n i (λ one. LeadsOn code one point)
Comes code points n point (Enters i) = Before points n i (λ one. EntersFrom code one point)
Comes code points n point (ComesBack call exit) = Before points n call (λ one.
    Before points n exit (λ callee. BackFrom code one callee point))

-- each point has an origin, and comes from there
pub record AreReached (code : Code) (points : List Point) (origins : List Origin) : Type 0 where
  pub paired : length origins ≡ length points
  pub comes : (n : ℕ) (point : Point) (origin : Origin) → slice_get points n ≡ Some point → slice_get origins n ≡ Some origin
      → Comes code points n point origin

-- a walk reaches each point
pub record AreWalked (code : Code) (points : List Point) : Type 0 where
  pub each : (n : ℕ) (point : Point) → slice_get points n ≡ Some point → IsWalked code point
