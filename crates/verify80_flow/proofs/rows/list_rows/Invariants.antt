use Rattle.verify80_flow.specs.Survey.{AreListed}
use Rattle.verify80_flow.proofs.rows.list_rows.Given as goal

abbrev pub invariant-loop-address : goal.invariant-loop-address
invariant-loop-address l = record { listed : AreListed l.table.known l.wants l.bounds l.address l.rows.items }
