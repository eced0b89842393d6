use Rattle.std.proofs.Common.{ℕ, sym, subst, ◌∙◌, arith}
use Rattle.std.proofs.lemmas.Result.{err_from_is_err_and}
use Rattle.omf_core.specs.Record.{SpellsRecord}
use Rattle.omf_body.specs.FirstFault.{FirstFault}
use Rattle.omf_module.specs.Spelled.{no_header_byte, no_header_record, other_kind, in_header_body}
use Rattle.omf_module.proofs.record_reading.header_at.Goals as goal

pub returns-then-bytes-at-clause-fault : goal.returns-then-bytes-at-clause-fault
returns-then-bytes-at-clause-fault c = no_header_byte (omega (arith, c.if-bytes-at.true))

pub returns-in_err-record-clause-fault : goal.returns-in_err-record-clause-fault
returns-in_err-record-clause-fault c =
    let p = err_from_is_err_and c.from_residual.result c.from_residual.ensures.1 in
    rw (p.1, p.2) (no_header_record c.in_err-record.field-0.0 (omega (arith, c.if-bytes-at.false))
    (sym c.in_err-record.ensures.fault))

pub returns-then-record-byte-clause-fault : goal.returns-then-record-byte-clause-fault
returns-then-record-byte-clause-fault c =
    other_kind c.in_ok-record.after c.in_ok-record.record.kind c.in_ok-record.record.body.now c.in_ok-record.ensures.read
    (λ e. c.if-record-byte.true (e ∙ sym c.byte.ensures))

pub returns-in_err-header-clause-fault : goal.returns-in_err-header-clause-fault
returns-in_err-header-clause-fault c =
    let p = err_from_is_err_and c.from_residual-in_err-header.result c.from_residual-in_err-header.ensures.1 in
    rw (p.1, p.2) (in_header_body c.in_ok-record.after c.in_ok-record.record.body.now c.in_err-header.field-0.0
    (subst (λ (k : ℕ). SpellsRecord c.args.bytes.now c.args.at c.in_ok-record.after k c.in_ok-record.record.body.now)
    (c.if-record-byte.false ∙ c.byte.ensures) c.in_ok-record.ensures.read)
    (subst (λ (k : ℕ). FirstFault k c.in_ok-record.record.body.now c.in_err-header.field-0.0) (c.if-record-byte.false
    ∙ c.byte.ensures) c.in_err-header.ensures.fault))
