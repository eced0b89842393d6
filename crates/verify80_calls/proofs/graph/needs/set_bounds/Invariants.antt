-- the bounds of the procedures so far, from the last one on
use Rattle.std.proofs.Common.{◌≡◌, ℕ, ◌<◌, ◌-◌, length, drop}
use Rattle.std.specs.Prelude.{slice_index}
use Rattle.frames80.specs.declared.procedure.Procedure.TheVariants.{Entry}
use Rattle.verify80_calls.specs.Nodes.{bound_of}
use Rattle.verify80_calls.proofs.graph.needs.set_bounds.Given as goal

abbrev pub invariant-loop-done : goal.invariant-loop-done
invariant-loop-done l = record {
  whole : length l.bounds ≡ 65536;
  each : (entry : ℕ) → entry < 65536 → slice_index l.bounds entry ≡ bound_of (drop (length l.nodes - l.done) l.nodes) (Entry entry);
}
