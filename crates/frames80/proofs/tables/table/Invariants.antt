use Rattle.std.proofs.Common.{◌≡◌, length}
use Rattle.std.specs.Prelude.{All}
use Rattle.frames80.proofs.tables.table.Given as goal

abbrev pub invariant-loop : goal.invariant-loop
invariant-loop g l = (length l.table.items ≡ l.counter) × All (λ x. x ≡ l.value) l.table.items
