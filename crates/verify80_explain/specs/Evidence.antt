-- Points that show a refusal. (This project's own.)
use Rattle.std.specs.Prelude.{◌≡◌, ◌≢◌, ◌<◌, ℕ, false}
use Rattle.frames80.specs.Code.{Code, role_of}
use Rattle.frames80.specs.Calls.{room, agree}
use Rattle.frames80.specs.declared.procedure.Procedure.TheVariants.{Entry}
use Rattle.verify80_flow.specs.Walks.{Calls, Returns as ReturnsWith}
use Rattle.verify80_flow.specs.declared.refusal.Refusal.{Refusal}
use Rattle.verify80_walks.specs.declared.point.Point.{Point}
use Rattle.verify80_walks.specs.declared.route.Route.{Route}
use Rattle.verify80_explain.specs.declared.explanation.Explanation.{Explanation}
use Rattle.verify80_explain.specs.declared.explanation.Explanation.TheVariants.{Way as OneWay, Ways as TwoWays}
use Rattle.verify80_explain.specs.declared.evidence.Fault.{Fault}
use Rattle.verify80_explain.specs.declared.evidence.Fault.TheVariants.{Look, Frame}
use Rattle.verify80_explain.specs.declared.evidence.Clash.{Clash}
use Rattle.verify80_explain.specs.declared.evidence.Clash.TheVariants.{Heights, Returns, Shortage}
use Rattle.verify80_walks.specs.declared.looked.Looked.TheVariants.{Wrong, Stuck}
use Rattle.verify80_explain.specs.declared.sought.Sought.{Sought}
use Rattle.verify80_explain.specs.declared.sought.Kind.{Kind}
use Rattle.verify80_explain.specs.declared.sought.Kind.TheVariants.{Fault as OfFault, Clash as OfClash, Ring as OfRing}
use Rattle.verify80_walks.specs.Reached.{IsLooked}
use Rattle.verify80_explain.specs.Shows.{ByRing, Shows}
use Rattle.verify80_walks.specs.Ways.{IsRoute}

-- a point is at an address, and the instruction there may not be executed at this point
abbrev pub FaultAt : Code → ℕ → Fault → Point → Type 0
FaultAt code at (Look fault) point = (point.at ≡ at) × IsLooked code point (Wrong fault)
FaultAt code at (Frame fault) point = (point.at ≡ at) × IsLooked code point (Stuck fault)

-- two points are at one address of one procedure, with different counts
pub record DifferAt (at : ℕ) (one other : Point) : Type 0 where
  pub one_at : one.at ≡ at
  pub other_at : other.at ≡ at
  pub procedure : other.procedure ≡ one.procedure
  pub differ : agree one.frame other.frame ≡ false

-- two points of one procedure return with different numbers of words taken
pub record UnevenAt (code : Code) (at : ℕ) (one other : Point) : Type 0 where
  pub one_at : one.at ≡ at
  pub procedure : other.procedure ≡ one.procedure
  pub taken : ℕ
  pub other_taken : ℕ
  pub returns : ReturnsWith code one.procedure one.at one.frame taken
  pub other_returns : ReturnsWith code other.procedure other.at other.frame other_taken
  pub differ : taken ≢ other_taken

-- a point calls, and another, of the callee, has taken more words than the caller has to give
pub record ShortAt (code : Code) (at : ℕ) (one other : Point) : Type 0 where
  pub one_at : one.at ≡ at
  pub target : ℕ
  pub next : ℕ
  pub call : Calls code one.procedure one.at one.frame target next
  pub procedure : other.procedure ≡ Entry target
  pub short : room (role_of code one.procedure) one.frame.words < other.frame.taken

-- two points clash so, the first of them at an address
abbrev pub ClashAt : Code → ℕ → Clash → (one other : Point) → Type 0
ClashAt code at Heights one other = DifferAt at one other
ClashAt code at Returns one other = UnevenAt code at one other
ClashAt code at Shortage one other = ShortAt code at one other

-- a route leads to a point at which there is this
pub record EndsWhere (code : Code) (There : Point → Type 0) (route : Route) : Type 0 where
  pub last : Point
  pub is_route : IsRoute code route last
  pub there : There last

-- two routes lead to points at which there is this
pub record BothEndWhere (code : Code) (There : Point → Point → Type 0) (route other : Route) : Type 0 where
  pub last : Point
  pub other_last : Point
  pub is_route : IsRoute code route last
  pub other_route : IsRoute code other other_last
  pub there : There last other_last

-- an explanation shows what is sought
abbrev pub ShowsKind : Code → ℕ → Kind → Explanation → Type 0
ShowsKind code at (OfFault fault) (OneWay route) = EndsWhere code (FaultAt code at fault) route
ShowsKind code at (OfClash clash) (TwoWays route other) = BothEndWhere code (ClashAt code at clash) route other
ShowsKind code at OfRing shown = ByRing code at shown
ShowsKind code at _ _ = ⊥

-- what shows it shows the refusal
abbrev pub IsSoughtFor : Refusal → Sought → Type 0
IsSoughtFor refusal sought = (code : Code) (shown : Explanation) → ShowsKind code sought.at sought.kind shown → Shows code refusal shown
