use Rattle.std.proofs.Common.{◌≡◌, ◌∙◌, ap, sym}
use Rattle.machine80.specs.Ports.{PortLists}
use Rattle.machine80.proofs.PortsLemmas.{without_next-none}
use Rattle.machine80.proofs.stepping.execute.Goals as goal

pub returns-in_default-take-clause-kept : goal.returns-in_default-take-clause-kept
returns-in_default-take-clause-kept g c =
    let old : PortLists = g.P.Ports.lists c.args.ports.now in
    let new : PortLists = g.P.Ports.lists c.take.new.self in
    let none = sym c.take.ensures.byte ∙ c.in_default-take.is in
    let inputs : new.inputs ≡ old.inputs = ap (λ (v : PortLists). v.inputs) c.take.ensures.taken ∙ without_next-none old.inputs c.in-In.port none in
    let outputs : new.outputs ≡ old.outputs = ap (λ (v : PortLists). v.outputs) c.take.ensures.taken in
    cc (inputs, outputs)
