-- The ways through a procedure: points, each of which follows from the one before it, and the calls that lead to the procedure.
-- (This project's own.)
use Rattle.std.specs.Prelude.{◌≡◌, ◌⊎◌, ℕ, List, [], ◌∷◌}
use Rattle.frames80.specs.StackFrame.{StackFrame}
use Rattle.frames80.specs.declared.procedure.Procedure.{Procedure}
use Rattle.frames80.specs.declared.procedure.Procedure.TheVariants.{Main, Entry}
use Rattle.frames80.specs.Code.{Code}
use Rattle.verify80_flow.specs.Walks.{Begins, Calls, Enters, GoesOn, GoesOnAfter, Returns, Walk}
use Rattle.verify80_walks.specs.declared.point.Point.{Point}
use Rattle.verify80_walks.specs.declared.route.Call.{Call}
use Rattle.verify80_walks.specs.declared.route.Route.{Route}

-- the point of a procedure at an address with a frame
abbrev pub point_of : Procedure → ℕ → StackFrame → Point
point_of p at f = record { procedure = p; at = at; frame = f }

-- a walk of the point's procedure can reach it
abbrev pub IsWalked : Code → Point → Type 0
IsWalked code point = Walk code point.procedure point.at point.frame

-- an instruction leads from one point to another of the same procedure
pub record LeadsOn (code : Code) (one other : Point) : Type 0 where
  pub procedure : other.procedure ≡ one.procedure
  pub on : GoesOn code one.procedure one.at one.frame other.at other.frame

-- a call leads from one point to another of the same procedure: its callee returns on some walk
pub record ComesBack (code : Code) (one other : Point) : Type 0 where
  pub procedure : other.procedure ≡ one.procedure
  pub target : ℕ
  pub call : Calls code one.procedure one.at one.frame target other.at
  pub inside : ℕ
  pub callee : StackFrame
  pub taken : ℕ
  pub walk : Walk code (Entry target) inside callee
  pub return : Returns code (Entry target) inside callee taken
  pub after : GoesOnAfter code one.procedure one.frame taken other.frame

-- one point follows from another
abbrev pub Follows : Code → (one other : Point) → Type 0
Follows code one other = LeadsOn code one other ⊎ ComesBack code one other

-- from a point on each follows from the one before it, up to the last
abbrev pub Way : Code → Point → List Point → (last : Point) → Type 0
Way code one [] last = one ≡ last
Way code one (other ∷ rest) last = Follows code one other × Way code other rest last

-- the main program, or a procedure, is at its start
abbrev pub Starts : Code → Point → Type 0
Starts code point = Begins code point.procedure point.at point.frame
    ⊎ ((target : ℕ) × Enters target point.procedure point.at point.frame)

-- a walk of the caller is at the call
pub record IsCalled (code : Code) (call : Call) : Type 0 where
  pub frame : StackFrame
  pub next : ℕ
  pub walk : Walk code call.caller call.at frame
  pub calls : Calls code call.caller call.at frame call.target next

-- calls lead from one procedure to another
abbrev pub Lead : Code → Procedure → List Call → Procedure → Type 0
Lead code p [] q = p ≡ q
Lead code p (call ∷ rest) q = (call.caller ≡ p) × IsCalled code call × Lead code (Entry call.target) rest q

-- calls lead from the main program to a procedure, and a way in it from its start to a point
pub record IsRoute (code : Code) (route : Route) (last : Point) : Type 0 where
  pub first : Point
  pub rest : List Point
  pub points : route.way.items ≡ first ∷ rest
  pub starts : Starts code first
  pub way : Way code first rest last
  pub calls : Lead code Main route.calls.items last.procedure
