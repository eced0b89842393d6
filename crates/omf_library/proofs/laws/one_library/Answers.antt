use Rattle.omf_library.proofs.OneLibrary.{of_laws, one_library, one_library_fault, never_both_library}
use Rattle.omf_library.proofs.laws.one_library.Goals as goal

pub returns-clause-library : goal.returns-clause-library
returns-clause-library c =
    one_library (of_laws c.one_record_at_each_place.ensures c.no_fault_exactly_at_records.ensures c.one_reading.ensures.module
    c.one_reading.ensures.fault c.one_reading.ensures.never_both)

pub returns-clause-fault : goal.returns-clause-fault
returns-clause-fault c =
    one_library_fault (of_laws c.one_record_at_each_place.ensures c.no_fault_exactly_at_records.ensures
    c.one_reading.ensures.module c.one_reading.ensures.fault c.one_reading.ensures.never_both)

pub returns-clause-never_both : goal.returns-clause-never_both
returns-clause-never_both c =
    never_both_library (of_laws c.one_record_at_each_place.ensures c.no_fault_exactly_at_records.ensures
    c.one_reading.ensures.module c.one_reading.ensures.fault c.one_reading.ensures.never_both)
