use Rattle.std.proofs.Common.{◌∙◌, sym}
use Rattle.omf_library.proofs.FeedLemmas.{cut_off_here}
use Rattle.omf_library.proofs.UnfinishedLemmas.{no_header_lasts, header_record_lasts}
use Rattle.omf_library.proofs.unfinished.read_header.Goals as goal

pub returns-then-not-is_library_header-clause-fault :
    goal.returns-then-not-is_library_header-clause-fault
returns-then-not-is_library_header-clause-fault c =
    no_header_lasts c.records_stay.ensures c.args.bytes.now c.in-Ok.after c.in-Ok.record.kind c.in-Ok.record.body.now
    c.in-Ok.ensures.read
    (sym c.is_library_header.ensures ∙ c.if-not-is_library_header.true)

pub returns-in-Err-clause-cut_off : goal.returns-in-Err-clause-cut_off
returns-in-Err-clause-cut_off c =
    λ _. cut_off_here c.other_faults_stay.ensures c.args.bytes.now 0 c.in-Err.fault (sym c.in-Err.ensures.fault) (sym c.if-is_truncated.ensures)

pub returns-in-Err-2-clause-fault : goal.returns-in-Err-2-clause-fault
returns-in-Err-2-clause-fault c =
    rw c.of_record.ensures (header_record_lasts c.other_faults_stay.ensures c.args.bytes.now c.in-Err.fault
    (sym c.if-is_truncated.ensures) (sym c.in-Err.ensures.fault))
