use Rattle.verify80_states.proofs.Names.{List, rules, ap, Cell, stored_cell}
use Rattle.verify80_states.proofs.ArrayLemmas.{map_is}
use Rattle.verify80_states.proofs.states.cells.Cells.after.Goals as goal

pub returns-in-Some : goal.returns-in-Some
returns-in-Some c = rw c.in-Some.is (ap (λ (each : List Cell). record { each = each }) (map_is (stored_cell c.in-Some.stored) _ c.args.self.each c.map.result 8 (search rules) (search rules) c.map.ensures.items))
