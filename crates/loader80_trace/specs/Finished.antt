-- Runs that were stopped or have ended, and one step more. (This project's own.)
use Rattle.std.specs.Prelude.{◌≡◌, ℕ, ◌≤◌, Option, None, Some, OnSome, false, length}
use Rattle.image80.specs.Regions.{Areas}
use Rattle.machine80.specs.declared.end.End.{End}
use Rattle.machine80.specs.Ports.{PortLists}
use Rattle.machine80.specs.Step.{Machine, Next, step_of, turn_of}
use Rattle.machine80.specs.World.{World, refuses}
use Rattle.machine80.specs.Run.{Reaches}

-- ports that have refused no output, and take a given number at most
pub record AreOpen (outputs : ℕ) (ports : PortLists) : Type 0 where
  pub refused : ports.refused ≡ 0
  pub limit : ports.limit ≡ Some outputs
  pub within : length ports.outputs ≤ outputs

-- a run has reached a machine after a given number of steps, whether no more than `outputs` outputs are taken or each one is
pub record HasReached (regions : Areas) (outputs : ℕ) (start : World) (steps : ℕ) (m : Machine) : Type 0 where
  pub limited : Reaches regions (Some outputs) start steps m
  pub unlimited : Reaches regions None start steps m

-- one step from a machine on, or the end of its run: no more than `outputs` outputs are taken
pub record MakesStep (regions : Areas) (outputs : ℕ) (before after : Machine) (ending : Option End) : Type 0 where
  pub limited : step_of regions (refuses (Some outputs) before.outputs) before ≡ turn_of ending after
  pub unlimited : ending ≡ None → step_of regions false before ≡ Next after
  pub kept : OnSome ending (after ≡ before)
