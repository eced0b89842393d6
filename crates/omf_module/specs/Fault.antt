-- The numbers of the refusals, which are this project's own.
use Rattle.std.specs.Prelude.{ℕ}
use Rattle.omf_module.specs.declared.fault.Cause.{Cause}
use Rattle.omf_module.specs.declared.fault.ModuleFault.{ModuleFault}
use Rattle.omf_module.specs.declared.fault.Cause.TheVariants.{Record, NoHeader, UnknownKind, BadBody, BadName, SegmentUnknown, OffsetOutside}
use Rattle.omf_module.specs.declared.fault.Cause.TheVariants.{FixupBeforeContent, FixupOutside, FixupTwice, IndexUnknown, NoEnd, Memory as CauseMemory}

abbrev pub cause_code : Cause → ℕ
cause_code (Record f) = 1
cause_code NoHeader = 2
cause_code (UnknownKind kind) = 3
cause_code (BadBody kind) = 4
cause_code BadName = 5
cause_code (SegmentUnknown id) = 6
cause_code OffsetOutside = 7
cause_code FixupBeforeContent = 8
cause_code FixupOutside = 9
cause_code FixupTwice = 10
cause_code IndexUnknown = 11
cause_code NoEnd = 12
cause_code CauseMemory = 13

-- out of memory has no place, and stands at 0
abbrev pub no_memory : ModuleFault
no_memory = record { at = 0; cause = CauseMemory }

-- the fault of the record at a place
abbrev pub fault_of : ℕ → Cause → ModuleFault
fault_of at CauseMemory = no_memory
fault_of at cause = record { at = at; cause = cause }
