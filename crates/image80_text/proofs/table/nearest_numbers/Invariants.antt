-- the entries so far, and those that are left
use Rattle.std.proofs.Common.{◌≡◌, ◌++◌, drop}
use Rattle.std.specs.Prelude.{None}
use Rattle.image80_text.specs.Tables.{filled_from}
use Rattle.image80_text.proofs.table.nearest_numbers.Given as goal

abbrev pub invariant-loop-number : goal.invariant-loop-number
invariant-loop-number l = l.table.items ++ filled_from l.nearest (drop l.number-index l.first) ≡ filled_from None l.first
