-- What the verifier knows while it goes over the points: the points with their frames, and for each entry how many words
-- its procedure takes where it returns, once a return was seen. (This project's own.)
use Rattle.std.specs.Prelude.{◌≡◌, ◌⊎◌, ◌≤◌, ◌<◌, ◌+◌, ◌*◌, ◌-◌, ℕ, Bool, true, false, List, [], Contains, length, sum_by, count_by}
use Rattle.std.specs.Prelude.{Option, Some, None, slice_get, slice_index_or, is_none, replicate, Result, Ok, OnOk, IfOk, MatchResult}
use Rattle.decode80.specs.declared.fetching.Fetched.{Fetched}
use Rattle.frames80.specs.declared.word.Word.{Word}
use Rattle.frames80.specs.declared.word.Word.TheVariants.{Own, Any}
use Rattle.frames80.specs.declared.role.Role.{Role}
use Rattle.frames80.specs.declared.moves.Moves.{Moves}
use Rattle.frames80.specs.declared.moves.Moves.TheVariants.{End, On, Jump, Either, Case, Call, MaybeCall, Return, MaybeReturn}
use Rattle.frames80.specs.StackFrame.{StackFrame, entry_frame, main_frame}
use Rattle.frames80.specs.Calls.{returned}
use Rattle.frames80.specs.Places.{Covers}
use Rattle.frames80_interned.specs.Frames.{frame_at}
use Rattle.frames80.specs.declared.procedure.Procedure.{Procedure}
use Rattle.frames80.specs.declared.procedure.Procedure.TheVariants.{Main, Entry}
use Rattle.frames80.specs.Code.{Code, role_of}
use Rattle.verify80_flow.specs.Walks.{Moving, LeadsTo, called, returning}
use Rattle.verify80_flow.specs.declared.refusal.Refusal.{Refusal}
use Rattle.verify80_flow.specs.declared.refusal.Refusal.TheVariants.{ReturnNotOwn, ShortArguments, Memory}
use Rattle.verify80_flow.specs.Faults.{most_points, HoldsAnyway}
use Rattle.verify80_flow.specs.Rows.{ReturnsWith}
use Rattle.verify80_flow.specs.Points.{Point, AreApart}
use Rattle.verify80_flow.specs.Shown.{IsShown, AtMove}

-- whether frames forget what no return asks for
pub record Known : Type 0 where
  pub points : List Point
  pub exits : List (Option ℕ)
  pub forgets : Bool

-- what is known, and the frames by number
pub record KnownFrames : Type 0 where
  pub known : Known
  pub frames : List StackFrame

-- everything is asked of frames that forget nothing
abbrev pub is_exact : (forgets : Bool) → Bool
is_exact true = false
is_exact false = true

-- nothing is known yet
abbrev pub nothing_known : (forgets : Bool) → Known
nothing_known forgets = record { points = []; exits = replicate 65536 None; forgets = forgets }

-- a refusal holds; that a word isn't the return address does only if frames forget nothing
abbrev pub Refused : (exact : Bool) → Code → Refusal → Type 0
Refused exact code (ReturnNotOwn at) = exact ≡ true → HoldsAnyway code (ReturnNotOwn at)
Refused exact code refusal = HoldsAnyway code refusal

-- a number has a frame that covers this one, and is this one if nothing is forgotten
pub record Lessens (forgets : Bool) (frames : List StackFrame) (id : ℕ) (frame : StackFrame) : Type 0 where
  pub there : id < length frames
  pub covers : Covers (frame_at frames id) frame
  pub same : forgets ≡ false → frame_at frames id ≡ frame

-- how many words a procedure takes where it returns, once a return was seen
abbrev pub known_at : Option (Option ℕ) → Option ℕ
known_at None = None
known_at (Some exit) = exit

abbrev pub exit_of : List (Option ℕ) → ℕ → Option ℕ
exit_of exits entry = known_at (slice_get exits entry)

abbrev pub takes_of : List (Option ℕ) → Procedure → Option ℕ
takes_of exits Main = None
takes_of exits (Entry entry) = exit_of exits entry

-- a frame has no more words, and no more words taken, than a given number
pub record IsWithin (most : ℕ) (f : StackFrame) : Type 0 where
  pub taken : f.taken ≤ most
  pub words : length f.words ≤ most

-- the table is small: there are no more points than are visited, and no frame has more words than there are points
pub record IsSmall (known : Known) : Type 0 where
  pub points : length known.points ≤ most_points
  pub frames : (i : ℕ) (point : Point) → slice_get known.points i ≡ Some point → IsWithin (length known.points) point.frame
  pub apart : AreApart known.points

-- a frame of the table can lead on: the table is small, the frame is there, and it is within a given number of words
pub record CanLead (table : KnownFrames) (frame most : ℕ) : Type 0 where
  pub small : IsSmall table.known
  pub there : frame < length table.frames
  pub fits : IsWithin most (frame_at table.frames frame)

-- all of it is shown by walks: the counts alone if frames forget
pub record Stands (exact : Bool) (code : Code) (known : Known) : Type 0 where
  pub mode : exact ≡ is_exact known.forgets
  pub points : (i : ℕ) (point : Point) → slice_get known.points i ≡ Some point → IsShown exact code point.procedure point.at point.frame
  pub exits : (entry taken : ℕ) → exit_of known.exits entry ≡ Some taken → ReturnsWith code (Entry entry) taken

-- how far the table is from its end: a measure that falls with each change
abbrev pub owns_word : Word → ℕ
owns_word Own = 1
owns_word Any = 0

abbrev pub owns : StackFrame → ℕ
owns f = sum_by owns_word f.words + owns_word f.pairs.bc + owns_word f.pairs.de + owns_word f.pairs.hl

abbrev pub weight : Known → ℕ
weight known =
    (sum_by (λ (p : Point). owns p.frame) known.points + (most_points - length known.points) * (most_points + 8))
    + count_by is_none known.exits

-- a step changes nothing, or the measure falls
pub record Goes (old new : Known) (changed : Bool) : Type 0 where
  pub same : changed ≡ false → new ≡ old
  pub less : changed ≡ true → weight new < weight old

-- the table has a frame at a point that covers this one
pub record HasPoint (known : Known) (p : Procedure) (at : ℕ) (g : StackFrame) : Type 0 where
  pub number : ℕ
  pub point : Point
  pub there : slice_get known.points number ≡ Some point
  pub procedure : point.procedure ≡ p
  pub address : point.at ≡ at
  pub covers : Covers point.frame g

-- each way that a move leads is in the table
pub record Follows (known : Known) (p : Procedure) (targets : List ℕ) (f : StackFrame) (next : ℕ) (moves : Moves) : Type 0 where
  pub on : (to : ℕ) (g : StackFrame) → LeadsTo moves targets next to g → HasPoint known p to g
  pub enters : (target : ℕ) → called moves ≡ Some target → HasPoint known (Entry target) target entry_frame
  pub after : (target taken : ℕ) → called moves ≡ Some target → exit_of known.exits target ≡ Some taken →
      HasPoint known p next (returned taken f)
  pub return : (entry taken : ℕ) → p ≡ Entry entry → returning moves ≡ Some taken → exit_of known.exits entry ≡ Some taken

-- what comes of a step of the table, if what leads to it is shown: the table stays small and shown, it changes nothing or is nearer to
-- its end, and if it changes nothing this is in it; or a refusal holds
pub record Advances (Shown : Bool → Code → Type 0) (There : Known → Type 0) (old new : Known) (result : Result Bool Refusal) : Type 0 where
  pub small : OnOk result (IsSmall new)
  pub more : OnOk result (length old.points ≤ length new.points)
  pub stands : (exact : Bool) (code : Code) → Stands exact code old → Shown exact code →
      MatchResult result (λ _. Stands exact code new) (λ refusal. Refused exact code refusal)
  pub goes : IfOk result (λ changed. Goes old new changed)
  pub there : IfOk result (λ changed. changed ≡ false → There new)

-- what comes of a frame that leads to a point
abbrev pub Flows : (old new : Known) → Procedure → (to : ℕ) → StackFrame → Result Bool Refusal → Type 0
Flows old new p to g result = Advances (λ exact code. IsShown exact code p to g) (λ known. HasPoint known p to g) old new result

-- a call carries the caller's frame
abbrev pub Carries : Moves → StackFrame → Type 0
Carries (Call g _) f = g ≡ f
Carries (MaybeCall g _) f = g ≡ f
Carries End f = Unit {0}
Carries (On _) f = Unit {0}
Carries (Jump _ _) f = Unit {0}
Carries (Either _ _) f = Unit {0}
Carries (Case _) f = Unit {0}
Carries (Return _) f = Unit {0}
Carries (MaybeReturn _ _) f = Unit {0}

-- an instruction is there with these moves: with these targets, this address after it, and in this role
pub record IsMoving (p : Procedure) (at : ℕ) (targets : List ℕ) (next : ℕ) (role : Role) (moves : Moves) (exact : Bool) (code : Code) : Type 0 where
  pub frame : StackFrame
  pub found : Fetched
  pub move : AtMove exact code p at frame found moves
  pub carries : Carries moves frame
  pub targets_are : targets ≡ code.targets at
  pub after : found.next ≡ next
  pub role_is : role ≡ role_of code p

-- what comes of a point's move: as of one frame, for each way that it leads
abbrev pub Steps : (old new : Known) → Procedure → (at : ℕ) → (targets : List ℕ) → (next : ℕ) → Role → Moves → Result Bool Refusal → Type 0
Steps old new p at targets next role moves result = Advances (IsMoving p at targets next role moves)
    (λ known. (f : StackFrame) → Carries moves f → Follows known p targets f next moves) old new result

-- how far a PCHL has come that leads to each of its targets: to a given number of the first
abbrev pub GoesToFirst : (old now : Known) → Procedure → StackFrame → (targets : List ℕ) → (count : ℕ) → (changed : Bool) → Type 0
GoesToFirst old now p f targets count changed = Advances (λ exact code. (to : ℕ) → Contains targets to → IsShown exact code p to f)
    (λ known. (i : ℕ) → i < count → (to : ℕ) → HasPoint known p (slice_index_or targets i to) f) old now (Ok changed)

-- a procedure returns at an address with a given number of words taken
pub record ReturnsAt (p : Procedure) (at taken : ℕ) (code : Code) : Type 0 where
  pub returns : ReturnsWith code p taken
  pub here : returns.at ≡ at

-- what comes of a return
abbrev pub Exits : (old new : Known) → Procedure → (at taken : ℕ) → Result Bool Refusal → Type 0
Exits old new p at taken result = Advances (λ exact code. ReturnsAt p at taken code)
    (λ known. (entry : ℕ) → p ≡ Entry entry → exit_of known.exits entry ≡ Some taken) old new result

-- an instruction is there that calls a procedure: with this address after it, and in this role
pub record IsCalling (p : Procedure) (at next : ℕ) (role : Role) (g : StackFrame) (target : ℕ) (exact : Bool) (code : Code) : Type 0 where
  pub found : Fetched
  pub moves : Moves
  pub move : AtMove exact code p at g found moves
  pub calls : called moves ≡ Some target
  pub after : found.next ≡ next
  pub role_is : role ≡ role_of code p

-- the callee's entry is in the table, and, if a return of it was seen, what the caller has after it
pub record HasCalled (known : Known) (p : Procedure) (next : ℕ) (g : StackFrame) (target : ℕ) : Type 0 where
  pub enters : HasPoint known (Entry target) target entry_frame
  pub after : (taken : ℕ) → exit_of known.exits target ≡ Some taken → HasPoint known p next (returned taken g)

-- what comes of a call
abbrev pub CallsOut : (old new : Known) → Procedure → (at next : ℕ) → Role → StackFrame → (target : ℕ) → Result Bool Refusal → Type 0
CallsOut old new p at next role g target result = Advances (IsCalling p at next role g target) (λ known. HasCalled known p next g target) old new result

-- why a caller's frame does not come back: out of memory, or it has too few words
abbrev pub IsShort : (at room taken : ℕ) → Refusal → Type 0
IsShort at room taken refusal = (refusal ≡ Memory) ⊎ ((refusal ≡ ShortArguments at) × (room < taken))

-- a point is closed: its instruction moves, and each way on is in the table
pub record IsClosed (code : Code) (known : Known) (point : Point) : Type 0 where
  pub found : Fetched
  pub moves : Moves
  pub moving : Moving code point.procedure point.at point.frame found moves
  pub follows : Follows known point.procedure (code.targets point.at) point.frame found.next moves

-- what comes of a visit of a point
abbrev pub Visits : Code → (old new : Known) → (i : ℕ) → Result Bool Refusal → Type 0
Visits code old new i result = Advances (λ exact seen. seen ≡ code)
    (λ known. (point : Point) → slice_get known.points i ≡ Some point → IsClosed code known point) old new result

-- all points are closed, and the start is among them
pub record AllClosed (code : Code) (known : Known) : Type 0 where
  pub start : HasPoint known Main code.start main_frame
  pub points : (i : ℕ) (point : Point) → slice_get known.points i ≡ Some point → IsClosed code known point

-- what comes of many visits, one after another
abbrev pub ManyVisits : Code → (old new : Known) → Result Bool Refusal → Type 0
ManyVisits code old new result = Advances (λ exact seen. seen ≡ code) (λ known. Unit {0}) old new result

-- what comes of a sweep: what was shown stays shown, and the measure doesn't rise; if the last part of it changed something,
-- it falls
pub record Sweeps (code : Code) (old new : Known) (result : Result Bool Refusal) : Type 0 where
  pub small : OnOk result (IsSmall new)
  pub stands : (exact : Bool) → Stands exact code old →
      MatchResult result (λ _. Stands exact code new) (λ refusal. Refused exact code refusal)
  pub no_more : OnOk result (weight new ≤ weight old)
  pub less : IfOk result (λ changed. changed ≡ true → weight new < weight old)

-- the first points are closed
pub record AreClosed (code : Code) (known : Known) (count : ℕ) : Type 0 where
  pub closed : (i : ℕ) (point : Point) → i < count → slice_get known.points i ≡ Some point → IsClosed code known point

-- the table is filled: small, shown, and closed
pub record IsFilled (code : Code) (known : Known) : Type 0 where
  pub small : IsSmall known
  pub stands : Stands (is_exact known.forgets) code known
  pub closed : AllClosed code known
