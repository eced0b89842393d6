use Rattle.std.proofs.Common.{rules, ◌≡◌, inr, length}
use Rattle.std.proofs.lemmas.Result.{err_from_is_err_and}
use Rattle.omf_library.proofs.FeedLemmas.{of_stay}
use Rattle.omf_library.proofs.UnfinishedLemmas.{modules_record_lasts, other_lasts, other_leads}
use Rattle.omf_library.proofs.unfinished.read_after_modules.Goals as goal

pub returns-in_err-standing_at-clause-fault : goal.returns-in_err-standing_at-clause-fault
returns-in_err-standing_at-clause-fault c =
    let p = err_from_is_err_and c.from_residual.result c.from_residual.ensures.1 in
    let s = of_stay c.records_stay.ensures c.lists_stay.ensures c.modules_stay.ensures.stay c.modules_stay.ensures.stand in
    rw (p.1, p.2) (inr (modules_record_lasts s c.args.bytes.now c.args.said c.args.modules.now.items c.args.next.now
    c.in_err-standing_at.field-0.0 c.requires c.in_err-standing_at.ensures.fault))

pub returns-in_err-progress-in-Other-clause-fault :
    goal.returns-in_err-progress-in-Other-clause-fault
returns-in_err-progress-in-Other-clause-fault c =
    let p = err_from_is_err_and c.from_residual-in_err-progress-in-Other.result
    c.from_residual-in_err-progress-in-Other.ensures.1 in
    let s = of_stay c.records_stay.ensures c.lists_stay.ensures c.modules_stay.ensures.stay c.modules_stay.ensures.stand in
    let stands = rw c.in-Other.is at c.in_ok-standing_at.ensures.stands in
    let all : c.len.result ≡ length c.args.modules.now.items = search rules in
    rw (p.1, p.2) (inr (other_lasts s c.args.bytes.now c.args.said c.in-Other.after c.in-Other.kind c.len.result
    c.args.modules.now.items c.args.next.now c.in_err-progress-in-Other.field-0.0 c.requires stands all
    c.in_err-progress-in-Other.ensures.fault))

pub returns-in_ok-progress-in-Other-clause-further :
    goal.returns-in_ok-progress-in-Other-clause-further
returns-in_ok-progress-in-Other-clause-further c =
    let stands = rw c.in-Other.is at c.in_ok-standing_at.ensures.stands in
    let all : c.len.result ≡ length c.args.modules.now.items = search rules in
    other_leads c.list_grows.ensures c.args.bytes.now c.args.said c.in-Other.after c.in-Other.kind c.len.result
    c.args.modules.now.items c.args.next.now c.args.next.now c.in_ok-progress-in-Other.progress c.requires
    stands all c.in_ok-progress-in-Other.ensures.leads
