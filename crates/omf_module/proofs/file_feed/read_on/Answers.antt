use Rattle.std.proofs.Common.{rules, ◌≡◌, Ok, false}
use Rattle.omf_module.proofs.StayLemmas.{of_stay}
use Rattle.omf_module.proofs.FileFeedLemmas.{stops_counted, stops_none}
use Rattle.omf_module.proofs.file_feed.read_on.Goals as goal

pub returns-then-not-branch-clause-counted : goal.returns-then-not-branch-clause-counted
returns-then-not-branch-clause-counted c =
    let done : c.read_one.result ≡ Ok false = search rules in
    let read = c.read_one.new.read in
    stops_counted (of_stay c.records_stay.ensures c.other_faults_stay.ensures) c.truncated_can_be_spoilt.ensures
    c.one_reading.ensures.never_both
    c.args.bytes.now read read.ended c.in_ok-read_one.ensures.read (c.read_one.ensures.stops done)

pub returns-then-not-branch-clause-none_lasts : goal.returns-then-not-branch-clause-none_lasts
returns-then-not-branch-clause-none_lasts c =
    let done : c.read_one.result ≡ Ok false = search rules in
    let read = c.read_one.new.read in
    stops_none (of_stay c.records_stay.ensures c.other_faults_stay.ensures) c.truncated_can_be_spoilt.ensures
    c.one_reading.ensures.fault
    c.one_file_reading.ensures.fault c.one_file_reading.ensures.never_both c.args.bytes.now read read.ended
    c.in_ok-read_one.ensures.read (c.read_one.ensures.stops done)
