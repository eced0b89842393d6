use Rattle.std.proofs.Common.{◌≡◌, ℕ, inl, inr, None, Ok, sym, subst}
use Rattle.omf_module.specs.Pieces.{IsCutOff}
use Rattle.omf_module.proofs.StayLemmas.{of_stay, whole_module_lasts, waits_none}
use Rattle.omf_module.proofs.pieces.next_module.Goals as goal

pub returns-in-Err-clause-fault : goal.returns-in-Err-clause-fault
returns-in-Err-clause-fault c =
    let none : c.walk_on.result ≡ Ok None = cc in
    whole_module_lasts (of_stay c.records_stay.ensures c.other_faults_stay.ensures) c.one_reading.ensures.fault
    c.one_reading.ensures.never_both
    c.args.bytes.now c.args.unfinished.now.begin c.in-Err.fault (c.walk_on.ensures.ends none) c.in-Err.ensures.fault

pub returns-in_default-clause-none_lasts : goal.returns-in_default-clause-none_lasts
returns-in_default-clause-none_lasts c = λ _ fault lasts.
    let none : c.unchecked_from.result ≡ Ok None = cc in
    waits_none (of_stay c.records_stay.ensures c.other_faults_stay.ensures) c.truncated_can_be_spoilt.ensures
    c.one_reading.ensures.fault
    c.args.bytes.now c.args.unfinished.now.begin fault c.requires.inside (inl (c.unchecked_from.ensures.waits none)) lasts

pub returns-in-Some-2-clause-none_lasts : goal.returns-in-Some-2-clause-none_lasts
returns-in-Some-2-clause-none_lasts c = λ _ fault lasts.
    let w = rw c.in-Some-2.is at c.in_ok-here.ensures.waits in
    waits_none (of_stay c.records_stay.ensures c.other_faults_stay.ensures) c.truncated_can_be_spoilt.ensures
    c.one_reading.ensures.fault
    c.args.bytes.now c.args.unfinished.now.begin fault c.requires.inside
    (inr (record { here = c.in-Some-2.here; commons = c.walk_on.new.commons.items; begun = w.0; cut_off = w.1 })) lasts

pub returns-in_default-clause-cut_off : goal.returns-in_default-clause-cut_off
returns-in_default-clause-cut_off c = λ _.
    let none : c.unchecked_from.result ≡ Ok None = cc in
    subst (λ (at : ℕ). IsCutOff c.args.bytes.now at) (sym (c.unchecked_from.ensures.unchecked none))
    (c.unchecked_from.ensures.waits none)

pub returns-in-Some-2-clause-cut_off : goal.returns-in-Some-2-clause-cut_off
returns-in-Some-2-clause-cut_off c = λ _.
    let w = rw c.in-Some-2.is at c.in_ok-here.ensures.waits in
    w.1
