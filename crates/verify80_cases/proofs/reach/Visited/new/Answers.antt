use Rattle.std.proofs.Common.{[], sym, subst}
use Rattle.verify80_cases.specs.Reach.{IsDone}
use Rattle.verify80_cases.proofs.ReachLemmas.{done_none}
use Rattle.verify80_cases.proofs.reach.Visited.new.Goals as goal

pub returns : goal.returns
returns c = λ image.
    let marks = c.in_ok-table.field-0.items in
    subst (IsDone image [] marks) (sym c.new.ensures.items) (done_none image marks c.in_ok-table.ensures.values c.in_ok-table.ensures.places)
