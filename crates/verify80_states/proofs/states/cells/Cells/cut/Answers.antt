use Rattle.verify80_states.proofs.Names.{List, rules, ap, Cell, cut_cell}
use Rattle.verify80_states.proofs.ArrayLemmas.{map_is}
use Rattle.verify80_states.proofs.states.cells.Cells.cut.Goals as goal

pub returns-in-Some : goal.returns-in-Some
returns-in-Some c = rw c.in-Some.is (ap (λ (each : List Cell). record { each = each }) (map_is (cut_cell c.in-Some.at c.args.bytes) _ c.args.self.each c.map.result 8 (search rules) (search rules) c.map.ensures.items))
