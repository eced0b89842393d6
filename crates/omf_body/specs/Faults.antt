-- The faults of a body, by the kind of its record. (They are this project's own.)
use Rattle.omf_core.specs.declared.kind.RecordKind.{RecordKind}
use Rattle.omf_core.specs.Kind.{kind_byte}
use Rattle.omf_body.specs.declared.fault.FieldFault.{FieldFault}
use Rattle.omf_body.specs.declared.fault.FieldFault.TheVariants as field
use Rattle.omf_body.specs.declared.fault.BodyFault.{BodyFault}
use Rattle.omf_body.specs.declared.fault.BodyFault.TheVariants.{BadBody, BadName}

-- the fault of a field, in a record of this kind
abbrev pub fault_of : RecordKind → FieldFault → BodyFault
fault_of kind field.BadBody = BadBody (kind_byte kind)
fault_of kind field.BadName = BadName
