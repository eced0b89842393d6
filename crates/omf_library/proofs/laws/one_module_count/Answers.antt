use Rattle.omf_library.proofs.OneLibrary.{of_laws, one_module_count}
use Rattle.omf_library.proofs.laws.one_module_count.Goals as goal

pub returns : goal.returns
returns c = one_module_count
    (of_laws c.one_record_at_each_place.ensures c.no_fault_exactly_at_records.ensures c.one_reading.ensures.module
    c.one_reading.ensures.fault c.one_reading.ensures.never_both) c.modules_stay.ensures.stand
