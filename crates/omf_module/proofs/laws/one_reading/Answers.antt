use Rattle.omf_module.proofs.OneReading.{of_laws, header_sound, one_header_fault}
use Rattle.omf_module.proofs.OneModule.{one_module, one_fault, never_both}
use Rattle.omf_module.proofs.laws.one_reading.Goals as goal

pub returns : goal.returns
returns c =
    let b = of_laws c.one_record_at_each_place.ensures c.no_fault_exactly_at_records.ensures c.one_body.ensures
    c.one_fault.ensures.one c.one_fault.ensures.never_both in
    record {
      «module» = one_module b;
      fault = one_fault b;
      never_both = never_both b;
      header_fault = one_header_fault b;
      sound_header = header_sound b;
    }
