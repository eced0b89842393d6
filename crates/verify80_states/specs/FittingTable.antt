-- A table of states that fits a program: the runs of the program are followed along such a table. At the start nothing is known; wherever
-- an instruction leads there is a state for what it makes of each of its states; and behind a call whose callee may return one for what
-- its returns bring, or one that says nothing. (This project's own.)
use Rattle.std.specs.Prelude.{◌≡◌, ◌<◌, ℕ, Bool, true, List, All, Option, Some, Ok, slice_get}
use Rattle.std.specs.List.{list_all}
use Rattle.decode80.specs.{declared.fetching.Fetched.Fetched, Facts.flow}
use Rattle.frames80.specs.Code.{Code}
use Rattle.image80.specs.Regions.{Areas}
use Rattle.verify80.specs.{Looking.declared_targets, Reached.IsReached, Reached.found_at}
use Rattle.verify80_states.specs.{declared.fitting.fitting.Placed.Placed, declared.states.state.State.State}
use Rattle.verify80_states.specs.{declared.states.variables.Variable.Variable, State.anything, Following.is_steady}
use Rattle.verify80_states.specs.{Fitting.Has, Fitting.FitsAt, Fitting.KnowsQuiet, Calls.ReturnFacts, Calls.AccountsFor, Calls.KeepsCalls}

-- a state that the table has at an address fits the instruction there: the table covers what comes of it, and has what calls and returns
-- want; and what is stored where a variable may be is one of the variable's bytes
pub record EntryFits (bytes : List (Option ℕ)) (returns : ReturnFacts) (targets : List ℕ) (variables : List Variable) (table : List Placed) (at : ℕ) (s : State) (found : Fetched) : Type 0 where
  pub covered : FitsAt bytes targets variables table s found
  pub calls : KeepsCalls returns bytes variables table at s found
  pub steady : list_all (is_steady bytes found.instr s.known) variables ≡ true

pub record Fits (quiet : ℕ → Bool) (code : Code) (bytes : List (Option ℕ)) (returns : ReturnFacts) (variables : List Variable) (table : List Placed) : Type 0 where
  pub start : Has variables table code.start anything
  pub entries : (place : ℕ) (placed : Placed) (found : Fetched) → slice_get table place ≡ Some placed → IsReached code placed.at →
      code.look placed.at ≡ Ok found → EntryFits bytes returns (code.targets placed.at) variables table placed.at placed.state found
  pub accounts : (at : ℕ) (found : Fetched) → IsReached code at → code.look at ≡ Ok found →
      AccountsFor returns (code.targets at) at found.next (flow found.instr)
  pub knows : KnowsQuiet quiet table
  pub quiet_variables : (number : ℕ) (v : Variable) → slice_get variables number ≡ Some v → quiet v.at ≡ true

-- the same of the instructions that are reached, by address
pub record FitsWhereReached (regions : Areas) (bytes : List (Option ℕ)) (returns : ReturnFacts) (reached : List (Option Fetched)) (variables : List Variable) (table : List Placed) (placed : Placed) : Type 0 where
  pub fits : (found : Fetched) → found_at reached placed.at ≡ Some found → EntryFits bytes returns (declared_targets regions placed.at) variables table placed.at placed.state found

-- an address accounts for where the instruction that is reached there leads
pub record AccountsAt (regions : Areas) (returns : ReturnFacts) (reached : List (Option Fetched)) (at : ℕ) : Type 0 where
  pub accounts : (found : Fetched) → found_at reached at ≡ Some found → AccountsFor returns (declared_targets regions at) at found.next (flow found.instr)

pub record AllFit (regions : Areas) (bytes : List (Option ℕ)) (returns : ReturnFacts) (reached : List (Option Fetched)) (variables : List Variable) (table : List Placed) : Type 0 where
  pub entries : All (FitsWhereReached regions bytes returns reached variables table) table
  pub accounts : (at : ℕ) → at < 65536 → AccountsAt regions returns reached at

-- a state that says nothing
abbrev pub nothing_at : (at : ℕ) → Placed
nothing_at at = record { at = at; state = anything; hint = 0 }
