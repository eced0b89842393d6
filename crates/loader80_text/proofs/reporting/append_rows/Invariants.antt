-- the lines so far, and those of the procedures that are left
use Rattle.std.proofs.Common.{◌≡◌, ◌++◌, drop}
use Rattle.std.specs.List.{flat_map}
use Rattle.loader80_text.specs.ReportText.{row_line}
use Rattle.loader80_text.proofs.reporting.append_rows.Given as goal

abbrev pub invariant-loop-row : goal.invariant-loop-row
invariant-loop-row l = l.text.items ++ flat_map row_line (drop l.row-index l.rows) ≡ l.initial.text.items ++ flat_map row_line l.rows
