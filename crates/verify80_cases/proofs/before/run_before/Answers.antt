use Rattle.verify80_cases.proofs.TrailLemmas.{begun_if}
use Rattle.verify80_cases.proofs.before.run_before.Goals as goal

pub returns-in-Some-clause-begun : goal.returns-in-Some-clause-begun
returns-in-Some-clause-begun c =
    begun_if c.args.code.now c.args.reached.now c.args.at c.trail_to-trail.result c.in-Some.table c.trail_to-trail.ensures c.in-Some.ensures.lxi c.in-Some.ensures.comparison
    c.in-Some.ensures.kind c.run_of.result c.run_of.ensures.is
