use Rattle.std.proofs.Common.{sym}
use Rattle.omf_library.proofs.FeedLemmas.{cut_off_here}
use Rattle.omf_library.proofs.UnfinishedLemmas.{record_lasts}
use Rattle.omf_library.proofs.unfinished.record_at.Goals as goal

pub returns-in-Ok-clause-record : goal.returns-in-Ok-clause-record
returns-in-Ok-clause-record c = (c.in-Ok.record.body.now, c.in-Ok.ensures.read)

pub returns-in-Err-clause-cut_off : goal.returns-in-Err-clause-cut_off
returns-in-Err-clause-cut_off c =
    λ _. cut_off_here c.other_faults_stay.ensures c.args.bytes.now c.args.at c.in-Err.fault (sym c.in-Err.ensures.fault) (sym c.if-is_truncated.ensures)

pub returns-in-Err-2-clause-fault : goal.returns-in-Err-2-clause-fault
returns-in-Err-2-clause-fault c =
    rw c.of_record.ensures (record_lasts c.other_faults_stay.ensures c.args.bytes.now c.args.at c.in-Err.fault
    (sym c.if-is_truncated.ensures) (sym c.in-Err.ensures.fault))
