use Rattle.std.proofs.Common.{ℕ, Ok, Err, refl, sym, subst, ◌∙◌}
use Rattle.omf_core.specs.Kind.{kind_byte}
use Rattle.omf_body.specs.declared.body.Body.{Body}
use Rattle.omf_body.specs.declared.fault.BodyFault.{BodyFault}
use Rattle.omf_body.specs.declared.fault.BodyFault.TheVariants.{UnknownKind}
use Rattle.omf_body.specs.Bodies.{body_kind, Spells}
use Rattle.omf_body.specs.FirstFault.{FirstFault, unknown, in_body}
use Rattle.omf_body.proofs.Bodies.{same_kind, body_is_every, body_is_no_fault, fault_is_no_body, fault_is_every}
use Rattle.omf_body.proofs.parsing.parse.Goals as goal

no_kind : (c : goal.In_default) → FirstFault c.args.source.kind c.args.source.body.now (UnknownKind c.args.source.kind)
no_kind c = unknown c.args.source.kind c.args.source.body.now (λ (b : Body). c.in_default.ensures.unknown (body_kind b))

pub returns-in_default-clause-fault : goal.returns-in_default-clause-fault
returns-in_default-clause-fault c = no_kind c

pub returns-in_default-clause-every_fault : goal.returns-in_default-clause-every_fault
returns-in_default-clause-every_fault c =
    fault_is_every c.args.source.kind c.args.source.body.now (Err (UnknownKind c.args.source.kind)) (UnknownKind c.args.source.kind) refl (no_kind c)

no_body : (c : goal.In-None) → FirstFault c.args.source.kind c.args.source.body.now (UnknownKind c.args.source.kind)
no_body c =
    unknown c.args.source.kind c.args.source.body.now
    (λ (b : Body) same. c.in-None.ensures.none b (same_kind (body_kind b) c.in-Some.kind (same ∙ sym c.in-Some.ensures.kind)))

pub returns-in-None-clause-fault : goal.returns-in-None-clause-fault
returns-in-None-clause-fault c = no_body c

pub returns-in-None-clause-every_fault : goal.returns-in-None-clause-every_fault
returns-in-None-clause-every_fault c =
    fault_is_every c.args.source.kind c.args.source.body.now (Err (UnknownKind c.args.source.kind)) (UnknownKind c.args.source.kind) refl (no_body c)

read : (c : goal.In-Some-Ok) → Spells c.args.source.kind c.args.source.body.now c.in-Some-Ok.body
read c =
    let e = rw c.in-Some-Ok.field-0-is at c.in-Some-Ok.ensures in
    subst (λ (t : ℕ). Spells t c.args.source.body.now c.in-Some-Ok.body) c.in-Some.ensures.kind e.spelled

pub returns-in-Some-Ok-clause-every_body : goal.returns-in-Some-Ok-clause-every_body
returns-in-Some-Ok-clause-every_body c =
    body_is_every c.args.source.kind c.args.source.body.now (Ok c.in-Some-Ok.body) c.in-Some-Ok.body refl (read c)

pub returns-in-Some-Ok-clause-every_fault : goal.returns-in-Some-Ok-clause-every_fault
returns-in-Some-Ok-clause-every_fault c =
    body_is_no_fault c.args.source.kind c.args.source.body.now (Ok c.in-Some-Ok.body) c.in-Some-Ok.body (read c)

first : (c : goal.After-of) → FirstFault c.args.source.kind c.args.source.body.now c.of.result
first c =
    let e = rw c.in-Some-Err.field-0-is at c.in-Some-Err.ensures in
    subst (λ (t : ℕ). FirstFault t c.args.source.body.now c.of.result) c.in-Some.ensures.kind
    (subst (λ (f : BodyFault). FirstFault (kind_byte c.in-Some.kind) c.args.source.body.now f) (sym c.of.ensures)
    (in_body c.in-Some.kind c.args.source.body.now c.in-Some-Err.fault e.fault))

pub returns-in-Some-Err-clause-every_body : goal.returns-in-Some-Err-clause-every_body
returns-in-Some-Err-clause-every_body c = fault_is_no_body c.args.source.kind c.args.source.body.now (Err c.of.result) c.of.result (first c)

pub returns-in-Some-Err-clause-fault : goal.returns-in-Some-Err-clause-fault
returns-in-Some-Err-clause-fault c = first c

pub returns-in-Some-Err-clause-every_fault : goal.returns-in-Some-Err-clause-every_fault
returns-in-Some-Err-clause-every_fault c = fault_is_every c.args.source.kind c.args.source.body.now (Err c.of.result) c.of.result refl (first c)
