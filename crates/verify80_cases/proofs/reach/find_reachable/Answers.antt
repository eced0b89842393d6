use Rattle.std.proofs.Common.{◌∷◌}
use Rattle.verify80_cases.proofs.ReachLemmas.{done_exact}
use Rattle.verify80_cases.proofs.reach.find_reachable.Goals as goal

pub returns : goal.returns
returns c =
    let image = c.args.code.now in
    done_exact image (image.start ∷ c.args.entries.now) c.in_ok-visited.visited.marks.items c.in_ok-visited.visited.order.items c.in_ok-visited.ensures
