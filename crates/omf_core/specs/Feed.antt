-- Files in pieces: the records that bytes hold from their start on, and the fault at which they stop.
-- (8080 Object Module Formats: an end-of-file record is the last of a file. What stands after it isn't read.)
use Rattle.std.specs.Prelude.{◌≡◌, ℕ, ◌+◌, ◌==◌, not, Bool, true, false, List, length, drop, Option, Some, IsTrue}
use Rattle.std.specs.List.{list_all}
use Rattle.omf_core.specs.declared.fault.RecordFault.{RecordFault}
use Rattle.omf_core.specs.declared.fault.RecordFault.TheVariants.{Truncated}
use Rattle.omf_core.specs.declared.kind.RecordKind.TheVariants.{EndOfFile}
use Rattle.omf_core.specs.Kind.{kind_byte}
use Rattle.omf_core.specs.Lasting.{Lasting}
use Rattle.omf_core.specs.Record.{SpellsRecord, fault_at}
use Rattle.omf_core.specs.Records.{RecordValue, SpellsRecords}

-- what callers see of a feed: the bytes that it took, and the fault that it keeps
pub record FeedValue : Type 0 where
  pub bytes : List ℕ
  pub kept : Option RecordFault

-- a record that doesn't end the file
abbrev pub goes_on : RecordValue → Bool
goes_on r = not (r.kind == kind_byte EndOfFile)

-- The bytes from their start up to place `to` spell these records, and none of them ends the file.
pub record OpenRecords (bytes : List ℕ) (to : ℕ) (records : List RecordValue) : Type 0 where
  pub spelled : SpellsRecords bytes 0 to records
  pub going_on : IsTrue (list_all goes_on records)

-- a given number of those
pub record OpenCount (bytes : List ℕ) (to count : ℕ) : Type 0 where
  pub records : List RecordValue
  pub before : OpenRecords bytes to records
  pub counted : count ≡ length records

-- a given number of records up to place `to`, the last of which ends the file
pub record EndedCount (bytes : List ℕ) (to count : ℕ) : Type 0 where
  pub at : ℕ
  pub records : List RecordValue
  pub body : List ℕ
  pub before : OpenRecords bytes at records
  pub ends : SpellsRecord bytes at to (kind_byte EndOfFile) body
  pub counted : count ≡ length records + 1

-- The bytes hold a given number of whole records: up to the one that ends the file, or as far as they go.
pub data CountsRecords (bytes : List ℕ) (count : ℕ) : Type 0 where
  ended : (to : ℕ) → EndedCount bytes to count → CountsRecords bytes count
  cut_off : (to : ℕ) → OpenCount bytes to count → fault_at (drop to bytes) to ≡ Some (Truncated to) → CountsRecords bytes count

-- the first fault of the records that the bytes hold from their start on
pub record FirstRecordFault (bytes : List ℕ) (fault : RecordFault) : Type 0 where
  pub at : ℕ
  pub records : List RecordValue
  pub before : OpenRecords bytes at records
  pub faults : fault_at (drop at bytes) at ≡ Some fault

-- The fault is there whatever bytes follow, also if none do.
abbrev pub LastingRecordFault : List ℕ → RecordFault → Type 0
LastingRecordFault = Lasting FirstRecordFault

-- how far a feed has read its bytes
abbrev pub ReadsUpTo : List ℕ → ℕ → ℕ → Bool → Type 0
ReadsUpTo bytes at count false = OpenCount bytes at count
ReadsUpTo bytes at count true = EndedCount bytes at count
