use Rattle.verify80_stores.proofs.Names.{ℕ, List, All, arith, Located, memory_of, world_at_start, HasBytes, HoldsBytes}
use Rattle.verify80_stores.proofs.laws.watched_runs_go_as_listed.Goals as goal

holds_bytes : (image : Located) (inputs : List (List ℕ)) (outputs : List (ℕ × ℕ)) → HasBytes (memory_of image.chunks) → All HasBytes inputs → HoldsBytes (world_at_start image inputs outputs).machine
holds_bytes image inputs outputs memory waiting = record {
  registers = record { a = omega arith; b = omega arith; c = omega arith; d = omega arith; e = omega arith; h = omega arith; l = omega arith };
  memory = memory;
  inputs = waiting;
}

pub returns : goal.returns
returns c image addresses stores jumps open_jumps memory listed = record {
  stores_go = λ most w run waiting found fetched.
      listed.stores_go (world_at_start image run.inputs run.outputs).machine (c.runs_begin_from_power_on.ensures image run.inputs run.outputs) (holds_bytes image run.inputs run.outputs memory waiting) most w found
      (record { steps = run.steps; is = run.is }) fetched;
  runs_end = λ most w run waiting e stops.
      listed.runs_end (world_at_start image run.inputs run.outputs).machine (c.runs_begin_from_power_on.ensures image run.inputs run.outputs) (holds_bytes image run.inputs run.outputs memory waiting) most w e
      (record { steps = run.steps; is = run.is }) stops;
}
