use Rattle.std.proofs.Common.{◌+◌, List, drop, subst, sym, ◌∙◌}
use Rattle.omf_module.specs.declared.module_file.PlacedBody.{PlacedBody}
use Rattle.omf_module.proofs.UseLemmas.{ContentsSoFar, front, fault_here, one_looked_at, all_looked_at}
use Rattle.omf_module.proofs.uses.contents_of.Goals as goal

pub returns-in-Err-clause-fault : goal.returns-in-Err-clause-fault
returns-in-Err-clause-fault c =
    let i = c.loop-placed.placed-index in
    let all = c.args.bodies.now in
    let p = c.placed-item.result in
    rw c.at.ensures (fault_here c.args.parts.now all p
    (drop (i + 1) all) c.loop-placed.nearest c.loop-placed.whole.items c.in-Err.why
    (subst (λ (rest : List PlacedBody). ContentsSoFar c.args.parts.now all rest c.loop-placed.nearest c.loop-placed.whole.items)
    (front all i p c.loop-placed-test.true c.placed-item.is) c.loop-placed.invariant)
    c.in-Err.ensures.fault)

pub loop-placed-preserved : goal.loop-placed-preserved
loop-placed-preserved c =
    let i = c.loop-placed.placed-index in
    let all = c.args.bodies.now in
    let p = c.placed-item.result in
    one_looked_at c.args.parts.now all p
    (drop (i + 1) all) c.loop-placed.nearest c.in-Ok.after c.loop-placed.whole.items c.take_body.new.whole.items
    (subst (λ (rest : List PlacedBody). ContentsSoFar c.args.parts.now all rest c.loop-placed.nearest c.loop-placed.whole.items)
    (front all i p c.loop-placed-test.true c.placed-item.is) c.loop-placed.invariant)
    c.in-Ok.ensures.taken

pub returns-clause-contents : goal.returns-clause-contents
returns-clause-contents c =
    c.in_ok-close.ensures
    ∙ (all_looked_at c.args.parts.now c.args.bodies.now c.loop-placed.placed-index c.loop-placed.nearest c.loop-placed.whole.items
    c.loop-placed.invariant c.loop-placed-test.false).contents

pub returns-clause-sound : goal.returns-clause-sound
returns-clause-sound c = λ cs.
    sym ((all_looked_at c.args.parts.now c.args.bodies.now c.loop-placed.placed-index c.loop-placed.nearest
    c.loop-placed.whole.items c.loop-placed.invariant c.loop-placed-test.false).sound cs)
