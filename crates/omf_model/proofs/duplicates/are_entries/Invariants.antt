-- what is left, after what was seen, passes as all does
use Rattle.std.proofs.Common.{◌≡◌, [], take, drop}
use Rattle.omf_model.specs.Rules.{each_after, is_new_entry}
use Rattle.omf_model.proofs.duplicates.are_entries.Given as goal

abbrev pub invariant-loop-place : goal.invariant-loop-place
invariant-loop-place l = each_after (is_new_entry l.commons) (take l.place l.entries) (drop l.place l.entries) ≡ each_after (is_new_entry l.commons) [] l.entries
