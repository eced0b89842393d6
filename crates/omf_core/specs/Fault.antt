-- The numbers of the refusals. (They are this project's own.)
use Rattle.std.specs.Prelude.{ℕ, Bool, true, false}
use Rattle.omf_core.specs.declared.fault.RecordFault.{RecordFault}
use Rattle.omf_core.specs.declared.fault.RecordFault.TheVariants.{Truncated, BadSum, ZeroLength}
use Rattle.omf_core.specs.declared.fault.PutFault.{PutFault}
use Rattle.omf_core.specs.declared.fault.PutFault.TheVariants.{TooLong, Memory}
use Rattle.omf_core.specs.declared.fault.NameFault.{NameFault}
use Rattle.omf_core.specs.declared.fault.NameFault.TheVariants.{BadName, Memory as NameMemory}
use Rattle.omf_core.specs.declared.fault.FeedFault.{FeedFault}
use Rattle.omf_core.specs.declared.fault.FeedFault.TheVariants.{Record as FeedRecord, Memory as FeedMemory}

abbrev pub record_fault_code : RecordFault → ℕ
record_fault_code (Truncated at) = 1
record_fault_code (BadSum at) = 2
record_fault_code (ZeroLength at) = 3

-- the bytes end before the record does
abbrev pub is_truncation : RecordFault → Bool
is_truncation (Truncated at) = true
is_truncation (BadSum at) = false
is_truncation (ZeroLength at) = false

abbrev pub put_fault_code : PutFault → ℕ
put_fault_code TooLong = 1
put_fault_code Memory = 2

abbrev pub name_fault_code : NameFault → ℕ
name_fault_code BadName = 1
name_fault_code NameMemory = 2

abbrev pub feed_fault_code : FeedFault → ℕ
feed_fault_code (FeedRecord f) = 1
feed_fault_code FeedMemory = 2
