-- the calls so far
use Rattle.std.proofs.Common.{◌≡◌, ℕ, false, length, take}
use Rattle.std.specs.Prelude.{slice_index_or}
use Rattle.std.specs.List.{list_any}
use Rattle.verify80_calls.specs.Tables.{stands_at}
use Rattle.verify80_calls.proofs.graph.chain.set_marks.Given as goal

abbrev pub invariant-loop-link : goal.invariant-loop-link
invariant-loop-link l = record {
  whole : length l.marks ≡ 65536;
  each : (at : ℕ) → slice_index_or l.marks at false ≡ list_any (stands_at at) (take l.link-index l.chain);
}
