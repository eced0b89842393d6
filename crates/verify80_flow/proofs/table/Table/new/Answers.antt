use Rattle.verify80_flow.proofs.table.Table.new.Goals as goal

pub returns : goal.returns
returns g c = λ i. record { points = (c.in_ok-points.ensures i).points; exits = c.in_ok-exits.ensures i; forgets = c.in_ok-asked.ensures i }
