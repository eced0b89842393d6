use Rattle.std.proofs.Common.{rules, ◌≡◌, ◌<◌, length, arith}
use Rattle.omf_module.specs.declared.fault.Cause.TheVariants.{NoEnd}
use Rattle.omf_module.specs.Spelled.{FaultsFile, no_end}
use Rattle.omf_module.proofs.WithinLemmas.{by_cause}
use Rattle.omf_module.proofs.StayLemmas.{of_stay}
use Rattle.omf_module.proofs.FileFeedLemmas.{waits_no_module, waiting_answer}
use Rattle.omf_module.proofs.file_feed.missing_end_fault.Goals as goal
use Rattle.omf_module.proofs.file_feed.missing_end_fault.Goals.{else-bytes-begin-via-then-bytes-begin+else-not-is_empty, else-bytes-begin-via-else-bytes-begin}

pub returns-then-not-is_empty : goal.returns-then-not-is_empty
returns-then-not-is_empty c =
    let read = c.args.read.now in
    let some : 0 < length read.modules.items = search rules in
    rw c.at.ensures (by_cause (FaultsFile c.args.bytes.now) read.unfinished.begin NoEnd
    (λ _. no_end read.unfinished.begin read.modules.items some c.requires.reads.spelled
    (omega (arith, c.if-bytes-begin.true))))

pub unreachable-requires : goal.unreachable-requires
unreachable-requires c =
    waits_no_module (of_stay c.records_stay.ensures c.other_faults_stay.ensures) c.truncated_can_be_spoilt.ensures
    c.one_reading.ensures.never_both
    c.args.bytes.now c.args.read.now.unfinished.begin c.in-Ok.field-0.1 c.in-Ok.field-0.0 c.requires.reads.inside c.requires.waits
    c.in-Ok.ensures.read

pub returns : goal.returns
returns c =
    let read = c.args.read.now in
    let within : 0 < length read.modules.items → read.unfinished.begin < length c.args.bytes.now =
    elim c.else-bytes-begin.branch [
      | else-bytes-begin-via-then-bytes-begin+else-not-is_empty w ↦ λ some.
          let none : length read.modules.items ≡ 0 = search rules in
          absurd (omega (arith, none, some))
      | else-bytes-begin-via-else-bytes-begin w ↦ λ _. omega (arith, w.if-bytes-begin.false)
    ] in
    waiting_answer (of_stay c.records_stay.ensures c.other_faults_stay.ensures) c.truncated_can_be_spoilt.ensures
    c.one_reading.ensures.fault
    c.args.bytes.now read c.in-Err.fault c.requires.reads c.requires.waits within c.in-Err.ensures.fault
