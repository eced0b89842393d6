use Rattle.std.proofs.Common.{subst}
use Rattle.verify80_cases.specs.Covered.{is_covered}
use Rattle.verify80_cases.specs.Marks.{AreMarks}
use Rattle.verify80_cases.proofs.ReachLemmas.{searched}
use Rattle.verify80_cases.proofs.search.Search.of.Goals as goal

pub returns : goal.returns
returns c =
    let image = c.args.code.now in
    let taken = c.in_ok-taken.taken.items in
    searched image c.args.entries.now c.in_ok-visited.visited.marks.items taken c.in_ok-visited.visited.order.items c.in_ok-visited.ensures
    (subst (λ m. AreMarks (is_covered image m) 65536 taken) c.deref.ensures.value c.in_ok-taken.ensures)
