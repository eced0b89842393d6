use Rattle.std.proofs.lemmas.Result.{err_from_is_err_and}
use Rattle.omf_library.proofs.UnfinishedLemmas.{header_lasts}
use Rattle.omf_library.proofs.unfinished.UnfinishedLibrary.read_header.Goals as goal

pub returns-in_err-said-clause-fault : goal.returns-in_err-said-clause-fault
returns-in_err-said-clause-fault c =
    let p = err_from_is_err_and c.from_residual.result c.from_residual.ensures.1 in
    rw (p.1, p.2) (header_lasts c.args.bytes.now c.in_err-said.field-0.0 c.in_err-said.ensures.fault)
