use Rattle.std.proofs.Common.{sym, subst, ◌∙◌, true≢false}
use Rattle.omf_body.specs.declared.body.Body.{Body}
use Rattle.omf_module.specs.Records.{SpellsBody}
use Rattle.omf_module.proofs.WithinLemmas.{other_than_end}
use Rattle.omf_module.proofs.StayLemmas.{of_stay, records_last, ends_module, goes_further}
use Rattle.omf_module.proofs.pieces.walk_on.Goals as goal

pub returns-in-Err-clause-fault : goal.returns-in-Err-clause-fault
returns-in-Err-clause-fault c =
    rw c.at.ensures (records_last
    (of_stay c.records_stay.ensures c.other_faults_stay.ensures) c.args.bytes.now c.args.begin c.loop-alloc.here
    c.loop-alloc.commons.items c.in-Err.why
    c.loop-alloc.invariant (λ cut. true≢false (sym (c.is_cut_off.ensures.1 cut) ∙ c.loop-alloc-test.true)) c.in-Err.ensures.fault)

pub returns-in-ModuleEnd-clause-ends : goal.returns-in-ModuleEnd-clause-ends
returns-in-ModuleEnd-clause-ends c = λ _.
    ends_module c.args.bytes.now c.args.begin c.loop-alloc.here c.in-Ok.read.1 c.loop-alloc.commons.items c.in-ModuleEnd.field-0
    c.loop-alloc.invariant
    (subst (λ (b : Body). SpellsBody c.args.bytes.now c.loop-alloc.here c.in-Ok.read.1 b) c.in-ModuleEnd.is
    c.in-Ok.ensures.follows.spelled)

pub loop-alloc-preserved : goal.loop-alloc-preserved
loop-alloc-preserved c =
    goes_further c.args.bytes.now c.args.begin c.loop-alloc.here c.in-Ok.read.1 c.loop-alloc.commons.items
    c.next_body.new.commons.items c.in-Ok.read.0
    c.loop-alloc.invariant c.in-Ok.ensures.follows (other_than_end c.in-Ok.read.0 c.in_default.not-ModuleEnd)
