use Rattle.std.proofs.Common.{sym, ◌∙◌, true≢false}
use Rattle.omf_module.proofs.StayLemmas.{of_stay, header_lasts}
use Rattle.omf_module.proofs.pieces.after_header.Goals as goal

pub returns-in-Err-clause-fault : goal.returns-in-Err-clause-fault
returns-in-Err-clause-fault c =
    rw c.at.ensures (header_lasts
    (of_stay c.records_stay.ensures c.other_faults_stay.ensures) c.args.bytes.now c.args.begin c.in-Err.why
    (λ cut. true≢false (sym (c.is_cut_off.ensures.1 cut) ∙ c.if-is_cut_off.false)) c.in-Err.ensures.memory c.in-Err.ensures.fault)
