use Rattle.std.proofs.lemmas.Result.{err_from_is_err_and}
use Rattle.omf_library.proofs.FeedLemmas.{first_fault}
use Rattle.omf_library.proofs.feed.finish.Goals as goal

pub returns-in_err-read_on-clause-fault : goal.returns-in_err-read_on-clause-fault
returns-in_err-read_on-clause-fault c =
    let p = err_from_is_err_and c.from_residual.result c.from_residual.ensures.1 in
    rw (p.1, p.2) (first_fault c.args.bytes.now c.in_err-read_on.field-0.0 c.in_err-read_on.ensures.fault)
