use Rattle.std.proofs.Common.{arith}
use Rattle.std.proofs.lemmas.Option.{slice_get_within}
use Rattle.verify80_walks.proofs.WayLemmas.{walked}
use Rattle.verify80_walks.proofs.reached.are_reached.Goals as goal

pub returns-clause-walked : goal.returns-clause-walked
returns-clause-walked g c = λ _.
    let points = c.args.points.now in
    let origins = c.args.origins.now in
    let same = c.if-origins-points.false in
    let end = c.loop-number-test.false in
    walked (g.C.Code.code c.args.program.now) points origins (record {
      paired = omega (arith, same);
      comes = λ n point origin is at. let within = slice_get_within points n point is in c.loop-number.invariant.comes n point origin (omega (arith, within, end)) is at;
    })
