-- A run that goes on from where it was stopped. (It follows from the definitions of worlds and runs: what the shadow stack holds
-- changes no step.)
use Rattle.std.specs.Prelude.{ℕ, ◌+◌, Option}
use Rattle.image80.specs.Regions.{Areas}
use Rattle.machine80.specs.declared.end.End.{End}
use Rattle.machine80.specs.Step.{Machine}
use Rattle.machine80.specs.World.{World}
use Rattle.machine80.specs.Run.{IsRun, Reaches, world_of}

-- if a run has reached a machine, a run of that machine is the rest of the first: its steps and its limit are counted on
abbrev pub RunsGoOn : Type 0
RunsGoOn = (regions : Areas) (most : Option ℕ) (start : World) (made limit steps : ℕ) (before after : Machine) (ending : Option End) →
    Reaches regions most start made before → IsRun regions most (world_of before) limit steps after ending →
    IsRun regions most start (made + limit) (made + steps) after ending
