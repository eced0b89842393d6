-- What a state in a table owes: states, each at an address, such that what the instruction there makes of one is inside one wherever it
-- leads. (This project's own.)
use Rattle.std.specs.Prelude.{◌≡◌, ◌⊎◌, ℕ, Bool, true, false, List, All, Contains, Option, Some, slice_get, IfSome}
use Rattle.decode80.specs.{declared.fetching.Fetched.Fetched, declared.flow.Flow.Flow, Facts.flow}
use Rattle.decode80.specs.declared.flow.Flow.TheVariants.{Jumps, JumpsIf, JumpsToHl, Calls, CallsIf, Returns, ReturnsIf, Halts}
use Rattle.verify80_states.specs.{declared.states.state.State.State, declared.states.variables.Variable.Variable, declared.fitting.fitting.Placed.Placed}
use Rattle.verify80_states.specs.{State.IsStateInside, State.IsQuietState, State.cut_state, State.given_state, Following.state_after}
use Rattle.verify80_spans.specs.Span.{Within, ByteWithin, byte_alone}

-- the table has a state at an address that says no more than this one
pub record Has (variables : List Variable) (table : List Placed) (to : ℕ) (s : State) : Type 0 where
  pub place : ℕ
  pub placed : Placed
  pub there : slice_get table place ≡ Some placed
  pub at : placed.at ≡ to
  pub inside : IsStateInside variables s placed.state

-- the table has states at an address that together say no more than this one: one of them, or one for each byte that A may be
pub record Covers (variables : List Variable) (table : List Placed) (to : ℕ) (s : State) : Type 0 where
  pub either : Has variables table to s ⊎ ((byte : ℕ) → ByteWithin s.known.a byte → Has variables table to (cut_state s (byte_alone byte)))

-- the same of what an instruction makes of a state, if there is one
abbrev pub CoversAfter : List Variable → List Placed → (to : ℕ) → (State → State) → Option State → Type 0
CoversAfter variables table to after left = IfSome left (λ s. Covers variables table to (after s))

-- what a state owes where an instruction leads: `after` is what the instruction makes of a state, its call or return taken or not
abbrev pub FitsBy : (targets : List ℕ) → List Variable → List Placed → (after : Bool → State → State) → State → (next : ℕ) → Flow → Type 0
FitsBy targets variables table after s next (Jumps to) = Covers variables table to (after false s)
FitsBy targets variables table after s next (JumpsIf condition to) =
    CoversAfter variables table to (after true) (given_state condition true s) × CoversAfter variables table next (after false) (given_state condition false s)
FitsBy targets variables table after s next JumpsToHl = (to : ℕ) → Contains targets to → Within s.known.hl.words to → Covers variables table to (after false s)
FitsBy targets variables table after s next (Calls to) = Covers variables table to (after true s)
FitsBy targets variables table after s next (CallsIf condition to) =
    CoversAfter variables table to (after true) (given_state condition true s) × CoversAfter variables table next (after false) (given_state condition false s)
FitsBy targets variables table after s next Returns = Unit {0}
FitsBy targets variables table after s next (ReturnsIf condition) = CoversAfter variables table next (after false) (given_state condition false s)
FitsBy targets variables table after s next Halts = Unit {0}
FitsBy targets variables table after s next w = Covers variables table next (after false s)

-- a state at an address fits the instruction there
abbrev pub FitsAt : (code : List (Option ℕ)) → (targets : List ℕ) → List Variable → List Placed → State → Fetched → Type 0
FitsAt code targets variables table s found = FitsBy targets variables table (λ taken t. state_after code found.instr taken found.next t) s found.next (flow found.instr)

-- a flow calls the procedure that begins at an address
abbrev pub CallsEntry : Flow → ℕ → Type 0
CallsEntry (Calls to) entry = to ≡ entry
CallsEntry (CallsIf condition to) entry = to ≡ entry
CallsEntry w entry = ⊥

-- a table knows bytes of quiet addresses alone
abbrev pub KnowsQuiet : (quiet : ℕ → Bool) → List Placed → Type 0
KnowsQuiet quiet table = All (λ placed. IsQuietState quiet placed.state) table
