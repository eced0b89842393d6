use Rattle.std.proofs.Common.{◌≡◌, ◌≤◌, ◌+◌, ◌++◌, ◌-◌, length}
use Rattle.std.specs.Prelude.{filter}
use Rattle.std.specs.List.{range_with_len}
use Rattle.omf_model.specs.Segments.{has_common_id}
use Rattle.place80.specs.Layout.{common_ids}
use Rattle.place80.proofs.laying_out.common_ids.Given as goal

-- the ids so far, and those among the ids that are left
abbrev pub invariant-loop-id : goal.invariant-loop-id
invariant-loop-id l = record {
  ids : l.ids.items ++ filter (has_common_id l.commons) (range_with_len l.id (255 - l.id)) ≡ common_ids l.commons;
  few : length l.ids.items + 6 ≤ l.id;
}
