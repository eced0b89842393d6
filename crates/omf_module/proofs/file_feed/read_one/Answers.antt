use Rattle.std.proofs.Common.{rules, ◌≡◌, None, Ok, arith}
use Rattle.std.proofs.lemmas.Result.{err_from_is_err_and}
use Rattle.omf_module.specs.declared.file_feed.Progress.{Progress}
use Rattle.omf_module.proofs.FileLemmas.{module_further}
use Rattle.omf_module.proofs.StayLemmas.{of_stay}
use Rattle.omf_module.proofs.FileFeedLemmas.{module_fault_lasts, stops_waiting, reads_more, grows_none}
use Rattle.omf_module.proofs.file_feed.read_one.Goals as goal

pub returns-in_err-module-clause-fault : goal.returns-in_err-module-clause-fault
returns-in_err-module-clause-fault c =
    let read = c.args.read.now in
    let p = err_from_is_err_and c.from_residual.result c.from_residual.ensures.1 in
    rw (p.1, p.2) (module_fault_lasts
    (of_stay c.records_stay.ensures c.other_faults_stay.ensures) c.truncated_can_be_spoilt.ensures c.one_reading.ensures.fault
    c.one_record_at_each_place.ensures c.no_fault_exactly_at_records.ensures c.args.bytes.now read.unfinished.begin
    read.modules.items c.in_err-module.field-0.0
    c.requires.spelled c.requires.inside (c.ends_here.ensures.goes_on (search rules)) c.in_err-module.ensures.fault)

pub returns-in_default-clause-stops : goal.returns-in_default-clause-stops
returns-in_default-clause-stops c = λ _.
    let none : c.next_module.result ≡ Ok None = cc in
    let read : Progress = record {
      modules = c.args.read.now.modules;
      unfinished = c.next_module.new.unfinished;
      ended = c.args.read.now.ended;
    } in
    stops_waiting c.args.bytes.now read c.args.read.now.unfinished.begin c.if-read.false c.next_module.ensures.begin
    (c.next_module.ensures.waits none)

pub returns-in_err-push-clause-grown : goal.returns-in_err-push-clause-grown
returns-in_err-push-clause-grown c = grows_none c.args.read.now.modules.items c.push.new.self.items (search rules)

pub returns-clause-read : goal.returns-clause-read
returns-clause-read c =
    let read : Progress = record {
      modules = c.push.new.self;
      unfinished = c.begin_anew.new.unfinished;
      ended = c.args.read.now.ended;
    } in
    let spelled = rw c.in-Some.is at c.in_ok-module.ensures.module in
    reads_more c.args.bytes.now c.args.read.now read c.in-Some.after c.in-Some.module c.requires spelled
    (search rules) c.begin_anew.ensures c.if-read.false

pub returns-clause-further : goal.returns-clause-further
returns-clause-further c = λ _.
    let spelled = rw c.in-Some.is at c.in_ok-module.ensures.module in
    omega (
      arith,
      (module_further c.args.bytes.now c.args.read.now.unfinished.begin c.in-Some.after c.in-Some.module
          spelled).0,
      c.begin_anew.ensures.begin,
    )
