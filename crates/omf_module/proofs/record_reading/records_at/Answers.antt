use Rattle.std.proofs.lemmas.Result.{err_from_is_err_and}
use Rattle.omf_module.specs.Spelled.{FaultsModule, in_header}
use Rattle.omf_module.proofs.WithinLemmas.{by_cause, header_then}
use Rattle.omf_module.proofs.record_reading.records_at.Goals as goal

pub returns-in-Err-clause-fault : goal.returns-in-Err-clause-fault
returns-in-Err-clause-fault c =
    rw c.at.ensures (by_cause (FaultsModule c.args.bytes.now c.args.at) c.args.at c.in-Err.why
    (λ _. in_header c.in-Err.why c.in-Err.ensures.fault))

pub returns-in_err-within-clause-fault : goal.returns-in_err-within-clause-fault
returns-in_err-within-clause-fault c =
    let p = err_from_is_err_and c.from_residual.result c.from_residual.ensures.1 in
    rw (p.1, p.2) (header_then c.args.bytes.now c.args.at c.in-Ok.read.1 c.in-Ok.read.0 c.in_err-within.field-0.0
    c.in-Ok.ensures.spelled.spelled c.in_err-within.ensures.fault)
