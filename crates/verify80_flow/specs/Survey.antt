-- What a filled table says of each procedure and each call. (This project's own.)
use Rattle.std.specs.Prelude.{◌≡◌, ◌⊎◌, ◌≤◌, ◌<◌, ◌++◌, ◌∷◌, [], ℕ, Bool, true, false, List, AllPairs, Contains, length, Option, Some, None, slice_get, slice_index_or}
use Rattle.decode80.specs.declared.fetching.Fetched.{Fetched}
use Rattle.frames80.specs.declared.effect.Effect.{Effect}
use Rattle.frames80.specs.declared.moves.Moves.{Moves}
use Rattle.frames80.specs.Calls.{room, depth_of}
use Rattle.frames80_interned.specs.Admitted.{move_of}
use Rattle.frames80_interned.specs.Frames.{frame_at, IsFrame}
use Rattle.frames80.specs.declared.procedure.Procedure.{Procedure}
use Rattle.frames80.specs.declared.procedure.Procedure.TheVariants.{Entry}
use Rattle.verify80_bounds.specs.declared.graph.Depth.{Depth}
use Rattle.verify80_bounds.specs.declared.graph.CallSite.{CallSite}
use Rattle.verify80_flow.specs.declared.report.ProcRow.{ProcRow}
use Rattle.verify80_flow.specs.declared.site.Site.{Site}
use Rattle.frames80.specs.Code.{Code, role_of}
use Rattle.verify80_flow.specs.Walks.{Moving, Calls, called}
use Rattle.verify80_flow.specs.Points.{Point, AreAddresses}
use Rattle.verify80_flow.specs.Graph.{AreBounds, NoneRecurs}
use Rattle.verify80_bounds.specs.Chains.{bytes_of}
use Rattle.frames80.specs.Procedures.{slot_of}
use Rattle.verify80_flow.specs.Known.{Known, KnownFrames, exit_of}

-- the instruction of the point at i has these moves, and stands there
pub record IsMoveAt (code : Code) (known : Known) (i : ℕ) (site : Site) (moves : Moves) : Type 0 where
  pub point : Point
  pub there : slice_get known.points i ≡ Some point
  pub found : Fetched
  pub moving : Moving code point.procedure point.at point.frame found moves
  pub procedure : site.procedure ≡ point.procedure
  pub address : site.at ≡ point.at
  pub next : site.next ≡ found.next
  pub role : site.role ≡ role_of code point.procedure

-- the instruction of the point at i stands there and has this effect; its frame has this number
pub record EffectIsAt (code : Code) (table : KnownFrames) (i : ℕ) (site : Site) (effect : Effect) : Type 0 where
  pub move : IsMoveAt code table.known i site (move_of effect (frame_at table.frames site.frame))
  pub framed : IsFrame table.frames site.frame move.point.frame

-- a procedure's entry is one of the points
pub record IsEntered (known : Known) (entry : ℕ) : Type 0 where
  pub number : ℕ
  pub point : Point
  pub there : slice_get known.points number ≡ Some point
  pub procedure : point.procedure ≡ Entry entry
  pub address : point.at ≡ entry

-- a point of the procedure has a given number of words taken
pub record TakesAt (points : List Point) (p : Procedure) (taken : ℕ) : Type 0 where
  pub number : ℕ
  pub point : Point
  pub there : slice_get points number ≡ Some point
  pub procedure : point.procedure ≡ p
  pub is : point.frame.taken ≡ taken

-- for each procedure the most words that are taken at one of its first points
pub record AreWants (points : List Point) (wants : List ℕ) (count : ℕ) : Type 0 where
  pub above : (i : ℕ) (point : Point) → i < count → slice_get points i ≡ Some point →
      point.frame.taken ≤ bytes_of wants point.procedure
  pub reached : (p : Procedure) → (bytes_of wants p ≡ 0) ⊎ TakesAt points p (bytes_of wants p)

-- each procedure of the first points is marked, by its slot
pub record AreMarked (points : List Point) (marks : List Bool) (count : ℕ) : Type 0 where
  pub marked : (i : ℕ) (point : Point) → i < count → slice_get points i ≡ Some point →
      slice_index_or marks (slot_of point.procedure) false ≡ true

-- the depth at a point
abbrev pub depth_at : Code → Point → Depth
depth_at code point = record { procedure = point.procedure; depth = depth_of (role_of code point.procedure) point.frame }

-- a call at a point
abbrev pub call_at : Code → Point → ℕ → CallSite
call_at code point target = record {
  caller = point.procedure;
  at = point.at;
  depth = depth_of (role_of code point.procedure) point.frame;
  target = target;
}

pub record IsDepthAt (code : Code) (known : Known) (depth : Depth) : Type 0 where
  pub number : ℕ
  pub point : Point
  pub there : slice_get known.points number ≡ Some point
  pub is : depth ≡ depth_at code point

pub record IsCallAt (code : Code) (known : Known) (call : CallSite) : Type 0 where
  pub number : ℕ
  pub point : Point
  pub target : ℕ
  pub next : ℕ
  pub there : slice_get known.points number ≡ Some point
  pub calls : Calls code point.procedure point.at point.frame target next
  pub is : call ≡ call_at code point target

-- the depths and the calls of the first points; each caller has the words that its callee wants
pub record IsSurvey (code : Code) (known : Known) (wants : List ℕ) (count : ℕ) (depths : List Depth)
    (calls : List CallSite) : Type 0 where
  pub depth : (d : Depth) → Contains depths d → IsDepthAt code known d
  pub every_depth : (i : ℕ) (point : Point) → i < count → slice_get known.points i ≡ Some point →
      Contains depths (depth_at code point)
  pub call : (c : CallSite) → Contains calls c → IsCallAt code known c
  pub every_call : (i : ℕ) (point : Point) (target next : ℕ) → i < count → slice_get known.points i ≡ Some point →
      Calls code point.procedure point.at point.frame target next → Contains calls (call_at code point target)
  pub words : (i : ℕ) (point : Point) (target next : ℕ) → i < count → slice_get known.points i ≡ Some point →
      Calls code point.procedure point.at point.frame target next →
      bytes_of wants (Entry target) ≤ room (role_of code point.procedure) point.frame.words
  pub few : length calls ≤ count
  pub addresses : AreAddresses known.points

-- the call of a point, if its move calls: its caller has the words that its callee wants
abbrev pub IsCallOf : Code → (wants : List ℕ) → Point → (target : Option ℕ) → Option CallSite → Type 0
IsCallOf code wants point None None = Unit {0}
IsCallOf code wants point None (Some call) = ⊥
IsCallOf code wants point (Some target) None = ⊥
IsCallOf code wants point (Some target) (Some call) =
    (call ≡ call_at code point target) × (bytes_of wants (Entry target) ≤ room (role_of code point.procedure) point.frame.words)

-- what is noted of a point: its depth, and its call
pub record IsSeen (code : Code) (known : Known) (wants : List ℕ) (i : ℕ) (depth : Depth) (call : Option CallSite) : Type 0 where
  pub site : Site
  pub moves : Moves
  pub move : IsMoveAt code known i site moves
  pub depth_is : depth ≡ depth_at code move.point
  pub call_is : IsCallOf code wants move.point (called moves) call

-- a list with a call more, if there is one
abbrev pub noted : List CallSite → Option CallSite → List CallSite
noted calls None = calls
noted calls (Some call) = calls ++ call ∷ []

-- what is known of the stack that the program uses, from a table and the words that are wanted: each procedure's bound, that
-- no call recurs, and that each caller has the words that its callee wants
pub record IsBounded (code : Code) (known : Known) (wants bytes : List ℕ) : Type 0 where
  pub bounds : AreBounds code bytes
  pub ends : NoneRecurs code
  pub words : (i : ℕ) (point : Point) (target next : ℕ) → slice_get known.points i ≡ Some point →
      Calls code point.procedure point.at point.frame target next →
      bytes_of wants (Entry target) ≤ room (role_of code point.procedure) point.frame.words
  pub addresses : AreAddresses known.points

-- the row of a procedure
abbrev pub takes_in_row : Option ℕ → ℕ
takes_in_row None = 0
takes_in_row (Some taken) = taken

abbrev pub returns_in_row : Option ℕ → Bool
returns_in_row None = false
returns_in_row (Some taken) = true

abbrev pub row_of : Known → (wants bytes : List ℕ) → ℕ → ProcRow
row_of known wants bytes entry = record {
  entry = entry;
  takes = takes_in_row (exit_of known.exits entry);
  wants = bytes_of wants (Entry entry);
  bound = bytes_of bytes (Entry entry);
  returns = returns_in_row (exit_of known.exits entry);
}

pub record IsRowIn (known : Known) (wants bytes : List ℕ) (count : ℕ) (row : ProcRow) : Type 0 where
  pub entered : IsEntered known row.entry
  pub is : row ≡ row_of known wants bytes row.entry
  pub before : row.entry < count

-- the rows of the procedures whose entries are below an address
pub record AreListed (known : Known) (wants bytes : List ℕ) (count : ℕ) (rows : List ProcRow) : Type 0 where
  pub each : (row : ProcRow) → Contains rows row → IsRowIn known wants bytes count row
  pub all : (entry : ℕ) → entry < count → IsEntered known entry → Contains rows (row_of known wants bytes entry)
  pub by_entry : AllPairs (λ (a b : ProcRow). a.entry < b.entry) rows
