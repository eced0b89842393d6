use Rattle.verify80_walks.proofs.WayLemmas.{before-on, before-back, start-begins, start-enters}
use Rattle.verify80_walks.proofs.ways.before.Goals as goal

pub returns-in-Begins-clause-before : goal.returns-in-Begins-clause-before
returns-in-Begins-clause-before c = λ code h. start-begins code c.args.points.now c.args.origins.now h c.args.number c.requires.there c.in-Begins.is

pub returns-in-Enters-clause-before : goal.returns-in-Enters-clause-before
returns-in-Enters-clause-before c = λ code h. start-enters code c.args.points.now c.args.origins.now h c.args.number c.requires.there c.in-Enters.field-0 c.in-Enters.is

pub returns-in-GoesOn-clause-before : goal.returns-in-GoesOn-clause-before
returns-in-GoesOn-clause-before c = λ code h. before-on code c.args.points.now c.args.origins.now h c.args.number c.requires.there c.in-GoesOn.before c.in-GoesOn.is c.earlier.result c.earlier.ensures.none

pub returns-in-ComesBack-clause-before : goal.returns-in-ComesBack-clause-before
returns-in-ComesBack-clause-before c = λ code h. before-back code c.args.points.now c.args.origins.now h c.args.number c.requires.there c.in-ComesBack.call c.in-ComesBack.exit c.in-ComesBack.is c.earlier-in-ComesBack.result c.earlier-in-ComesBack.ensures.none
