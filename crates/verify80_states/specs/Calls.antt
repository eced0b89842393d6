-- Whether the procedure that runs at an address may still return, and where to; and what is owed to open calls: behind one whose callee may
-- return the table has a state that says nothing, unless the callee's states know where they return to. (This project's own.)
use Rattle.std.specs.Prelude.{◌≡◌, ◌⊎◌, ℕ, Bool, true, false, List, ◌∷◌, [], Contains, Option, Some, IfSome}
use Rattle.decode80.specs.{declared.flow.Flow.Flow, declared.fetching.Fetched.Fetched, Facts.flow}
use Rattle.decode80.specs.declared.flow.Flow.TheVariants.{Jumps, JumpsIf, JumpsToHl, Calls, CallsIf, Returns, ReturnsIf, Halts}
use Rattle.verify80_states.specs.{declared.fitting.calls.CallReturns.CallReturns, declared.fitting.fitting.Placed.Placed, declared.states.pairs.PairSpan.PairSpan}
use Rattle.verify80_states.specs.{declared.states.state.State.State, declared.states.variables.Variable.Variable, Variables.HoldsSet, State.unknown_but}
use Rattle.verify80_states.specs.{State.given_state, Following.state_after, Marks.is_marked, Fitting.Has, Fitting.Covers, Fitting.CallsEntry}
use Rattle.verify80_spans.specs.Span.{is_alone}

-- from each address on, until the procedure returns: whether it may return, and whether each of its returns goes to an address that the
-- state there knows
pub record ReturnFacts : Type 0 where
  pub may : (at : ℕ) → Bool
  pub known : (at : ℕ) → Bool

-- nothing returns
abbrev pub no_returns : ReturnFacts
no_returns = record { may = λ at. false; known = λ at. false }

-- those that are kept by address
abbrev pub returns_of : CallReturns → ReturnFacts
returns_of calls = record { may = is_marked calls.may_return.items; known = is_marked calls.know_return.items }

-- a return that may come from an address on may come from another on
pub record IsWithin (returns : ReturnFacts) (at to : ℕ) : Type 0 where
  pub may : returns.may to ≡ true → returns.may at ≡ true
  pub known : returns.known at ≡ true → returns.known to ≡ true

-- so it is behind a call, if its callee may return
abbrev pub AccountsForCall : ReturnFacts → (at entry next : ℕ) → Type 0
AccountsForCall returns at entry next = returns.may entry ≡ true → IsWithin returns at next

-- and wherever an instruction leads, if its address accounts for it
abbrev pub AccountsFor : ReturnFacts → (targets : List ℕ) → (at next : ℕ) → Flow → Type 0
AccountsFor returns targets at next (Jumps to) = IsWithin returns at to
AccountsFor returns targets at next (JumpsIf condition to) = IsWithin returns at to × IsWithin returns at next
AccountsFor returns targets at next JumpsToHl = (to : ℕ) → Contains targets to → IsWithin returns at to
AccountsFor returns targets at next (Calls to) = AccountsForCall returns at to next
AccountsFor returns targets at next (CallsIf condition to) = AccountsForCall returns at to next × IsWithin returns at next
AccountsFor returns targets at next Returns = returns.may at ≡ true
AccountsFor returns targets at next (ReturnsIf condition) = (returns.may at ≡ true) × IsWithin returns at next
AccountsFor returns targets at next Halts = Unit {0}
AccountsFor returns targets at next w = IsWithin returns at next

-- a state knows where a return goes, and the table covers there what the return makes of it: `after` is that
pub record KnowsReturn (variables : List Variable) (table : List Placed) (after : State → State) (s : State) : Type 0 where
  pub word : PairSpan
  pub first : s.words.first ≡ Some word
  pub alone : is_alone word.words ≡ true
  pub covers : Covers variables table word.words.first (after s)

abbrev pub KnowsReturnIf : List Variable → List Placed → (after : State → State) → Option State → Type 0
KnowsReturnIf variables table after left = IfSome left (λ s. KnowsReturn variables table after s)

abbrev pub KnowsReturnsOf : List Variable → List Placed → (after : State → State) → State → Flow → Type 0
KnowsReturnsOf variables table after s Returns = KnowsReturn variables table after s
KnowsReturnsOf variables table after s (ReturnsIf condition) = KnowsReturnIf variables table after (given_state condition true s)
KnowsReturnsOf variables table after s w = Unit {0}

-- if a state's instruction is a call whose callee may return, the table has a state that says nothing but of its variables behind it, unless the callee's states
-- know where they return to; and if this state is to know that, it does
pub record KeepsCalls (returns : ReturnFacts) (bytes : List (Option ℕ)) (variables : List Variable) (table : List Placed) (at : ℕ) (s : State) (found : Fetched) : Type 0 where
  pub behind : (entry : ℕ) → CallsEntry (flow found.instr) entry → returns.may entry ≡ true → returns.known entry ≡ false →
      Has variables table found.next (unknown_but s.known.set)
  pub known : returns.known at ≡ true → KnowsReturnsOf variables table (λ t. state_after bytes found.instr true found.next t) s (flow found.instr)

-- What is owed to open calls, the newest first: if a return may come from an address on, it is known where it goes, or what is wanted behind
-- the newest call is there; and so on for the older calls, from where it goes.
abbrev pub Owes : ReturnFacts → (behind : ℕ → Type 0) → (at : ℕ) → (places : List ℕ) → Type 0
Owes returns behind at [] = Unit {0}
Owes returns behind at (place ∷ older) = returns.may at ≡ true → ((returns.known at ≡ true) ⊎ behind place) × Owes returns behind place older

-- behind a call the table has a state that says nothing but of variables, each of which has one of its bytes
pub record IsBehind (variables : List Variable) (table : List Placed) (memory : List ℕ) (place : ℕ) : Type 0 where
  pub set : ℕ
  pub holds : HoldsSet variables set memory
  pub has : Has variables table place (unknown_but set)
