use Rattle.std.proofs.Common.{◌≡◌, ◌≤◌, ◌++◌, ◌-◌}
use Rattle.loader80_trace.specs.Cover.{data_before, is_data, marked_lines}
use Rattle.loader80_trace.proofs.CoverLemmas.{rest_marked}
use Rattle.loader80_trace.proofs.covering.covering.append_marked.Given as goal

abbrev pub invariant-loop-at : goal.invariant-loop-at
invariant-loop-at l = record {
  lines : l.lines.items ++ rest_marked l.marks l.layout.regions.now l.layout.memory.now l.layout.reached.now l.at (65536 - l.at)
      ≡ l.initial.lines.items ++ marked_lines l.marks l.layout.regions.now l.layout.memory.now l.layout.reached.now;
  before : l.before ≡ data_before (is_data l.layout.regions.now l.layout.reached.now) l.at;
  few : l.before ≤ l.at;
}
