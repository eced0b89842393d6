use Rattle.omf_module.proofs.OneReading.{of_laws}
use Rattle.omf_module.proofs.OneFile.{one_file, one_file_fault, never_both_file}
use Rattle.omf_module.proofs.laws.one_file_reading.Goals as goal

pub returns : goal.returns
returns c =
    let b = of_laws c.one_record_at_each_place.ensures c.no_fault_exactly_at_records.ensures c.one_body.ensures
    c.one_fault.ensures.one c.one_fault.ensures.never_both in
    record { file = one_file b; fault = one_file_fault b; never_both = never_both_file b }
