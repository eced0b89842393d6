use Rattle.std.proofs.Common.{length, refl}
use Rattle.std.proofs.lemmas.Result.{err_from_is_err_and}
use Rattle.omf_library.proofs.FeedLemmas.{of_stay}
use Rattle.omf_library.proofs.UnfinishedLemmas.{index_record_lasts, indexed_lasts, indexed_leads}
use Rattle.omf_library.proofs.unfinished.read_after_index.Goals as goal

pub returns-in_err-kind-clause-fault : goal.returns-in_err-kind-clause-fault
returns-in_err-kind-clause-fault c =
    let p = err_from_is_err_and c.from_residual.result c.from_residual.ensures.1 in
    let s = of_stay c.records_stay.ensures c.lists_stay.ensures c.modules_stay.ensures.stay c.modules_stay.ensures.stand in
    rw (p.1, p.2) (index_record_lasts s c.args.bytes.now c.args.said c.args.at c.args.modules.now c.in_err-kind.field-0.0
    c.requires c.in_err-kind.ensures.fault)

pub returns-in_err-progress-clause-fault : goal.returns-in_err-progress-clause-fault
returns-in_err-progress-clause-fault c =
    let p = err_from_is_err_and c.from_residual-in_err-progress.result c.from_residual-in_err-progress.ensures.1 in
    let s = of_stay c.records_stay.ensures c.lists_stay.ensures c.modules_stay.ensures.stay c.modules_stay.ensures.stand in
    let stands = rw c.in-Some.is at c.in_ok-kind.ensures.record in
    rw (p.1, p.2) (indexed_lasts s c.args.bytes.now c.args.said c.args.at c.in-Some.after c.in-Some.kind
    (length c.args.modules.now) stands.0 c.args.modules.now c.in_err-progress.field-0.0 c.requires stands.1 refl
    c.in_err-progress.ensures.fault)

pub returns-clause-further : goal.returns-clause-further
returns-clause-further c = λ next.
    let stands = rw c.in-Some.is at c.in_ok-kind.ensures.record in
    indexed_leads c.list_grows.ensures c.args.bytes.now c.args.said c.args.at c.in-Some.after c.in-Some.kind
    (length c.args.modules.now) stands.0 c.args.modules.now next c.in_ok-progress.progress c.requires stands.1
    refl c.in_ok-progress.ensures.leads
