-- The lines of a run, one for each of its worlds, and where they end. (This project's own.)
use Rattle.std.specs.Prelude.{◌≡◌, ℕ, ◌+◌, ◌-◌, ◌<◌, ◌≤◌, Bool, List, ◌++◌, Option, None, Some, Result, Ok, Err, min}
use Rattle.std.specs.List.{flat_map, range_with_len}
use Rattle.std.specs.Io.KnownBytes.{Appends}
use Rattle.omf_model.specs.declared.symbols.Public.{Public}
use Rattle.image80.specs.Regions.{Areas}
use Rattle.machine80.specs.declared.end.End.{End}
use Rattle.machine80.specs.Step.{Machine}
use Rattle.machine80.specs.World.{World, world_at}
use Rattle.machine80.specs.Run.{IsRun, Reaches}
use Rattle.loader80.specs.declared.running.Ended.{Ended}
use Rattle.loader80_trace.specs.declared.fault.TraceFault.{TraceFault}
use Rattle.loader80_trace.specs.declared.fault.TraceFault.TheVariants.{Write, Memory}
use Rattle.loader80_trace.specs.Lines.{world_line}

-- the line of the world after a given number of steps, with that of its name before it
abbrev pub step_line : Areas → Option ℕ → World → List Public → (numbered : Bool) → ℕ → List ℕ
step_line regions most start publics numbered number = world_line regions publics numbered number (world_at regions most start number)

-- the lines of `count` worlds, from the one after `from` steps on: line i is that of the world after `from` + i steps
unfoldable pub run_lines : Areas → Option ℕ → World → List Public → (numbered : Bool) → (from count : ℕ) → List ℕ
run_lines regions most start publics numbered from count = flat_map (step_line regions most start publics numbered) (range_with_len from count)

-- how many of `count` worlds from the one after `from` steps on come within a given number of steps
abbrev pub count_within : (steps from count : ℕ) → ℕ
count_within steps from count = min count (steps + 1 - from)

-- the number of the last world of a run: after the last step, or before the step that ends it
abbrev pub last_number : Option End → (steps : ℕ) → ℕ
last_number None steps = steps
last_number (Some e) steps = steps - 1

-- a run of at most a given number of steps ends so
pub record EndsSo (regions : Areas) (most : Option ℕ) (start : World) (limit : ℕ) (ended : Ended) : Type 0 where
  pub last : Machine
  pub run : IsRun regions most start limit ended.steps last ended.end
  pub cpu : ended.cpu ≡ last.cpu

-- the lines reached the end of the run, which is this
pub record CameToEnd (regions : Areas) (most : Option ℕ) (start : World) (limit from count : ℕ) (ended : Ended) : Type 0 where
  pub last : Machine
  pub run : IsRun regions most start limit ended.steps last ended.end
  pub cpu : ended.cpu ≡ last.cpu
  pub within : last_number ended.end ended.steps < from + count

-- the lines ran out first: the run lasts longer
pub record RanOut (regions : Areas) (most : Option ℕ) (start : World) (limit from count : ℕ) : Type 0 where
  pub last : Machine
  pub reached : Reaches regions most start (from + count) last
  pub within : from + count ≤ limit

abbrev pub IsTraced : Areas → Option ℕ → World → (limit from count : ℕ) → Option Ended → Type 0
IsTraced regions most start limit from count (Some ended) = CameToEnd regions most start limit from count ended
IsTraced regions most start limit from count None = RanOut regions most start limit from count

-- a front part of a text was appended
pub record AppendsFront (old new : Option (List ℕ)) (whole : List ℕ) : Type 0 where
  pub front : List ℕ
  pub rest : List ℕ
  pub parts : whole ≡ front ++ rest
  pub appended : Appends old new front

-- the failures of the writer that an answer means
abbrev pub trace_failures : {A : Type 0} → Result A TraceFault → ℕ
trace_failures (Ok x) = 0
trace_failures (Err Write) = 1
trace_failures (Err Memory) = 0
