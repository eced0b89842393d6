-- What holds of all spellings. (8080 Object Module Formats: it follows from the layout of records and names.)
use Rattle.std.specs.Prelude.{◌≡◌, ℕ, ◌+◌, ◌↔◌, ◌⊎◌, List, [], ◌∷◌, ◌++◌, length, drop, All, Some, None, false, IsTrue, slice_range, ◌<◌, ◌≤◌}
use Rattle.omf_core.specs.declared.fault.RecordFault.{RecordFault}
use Rattle.omf_core.specs.declared.fault.RecordFault.TheVariants.{Truncated, BadSum, ZeroLength}
use Rattle.omf_core.specs.Fault.{is_truncation}
use Rattle.omf_core.specs.Name.{SpellsName, is_name, holds_name, name_spelling}
use Rattle.omf_core.specs.Records.{RecordValue, SpellsRecords, spellings}
use Rattle.omf_core.specs.Record.{SpellsRecord, fault_at, spelling}

-- At a place no two records are spelled.
abbrev pub OneRecordAtEachPlace : Type 0
OneRecordAtEachPlace =
    (bytes : List ℕ) (from to to' kind kind' : ℕ) (body body' : List ℕ)
    → SpellsRecord bytes from to kind body
    → SpellsRecord bytes from to' kind' body'
    → (kind ≡ kind') × (body ≡ body') × (to ≡ to')

-- No spelling begins another: a spelling with more bytes after it is no spelling.
abbrev pub NoSpellingBeginsAnother : Type 0
NoSpellingBeginsAnother =
    (spelled more : List ℕ) (kind kind' : ℕ) (body body' : List ℕ)
    → SpellsRecord spelled 0 (length spelled) kind body
    → SpellsRecord (spelled ++ more) 0 (length (spelled ++ more)) kind' body'
    → more ≡ []

-- A place has no fault exactly where a record is spelled there.
abbrev pub NoFaultExactlyAtRecords : Type 0
NoFaultExactlyAtRecords =
    (bytes : List ℕ) (from : ℕ)
    → (fault_at (drop from bytes) from ≡ None)
    ↔ ((to : ℕ) × (kind : ℕ) × (body : List ℕ) × SpellsRecord bytes from to kind body)

-- What is spelled is spelled whatever bytes follow.
abbrev pub RecordsStay : Type 0
RecordsStay =
    (bytes more : List ℕ) (from to kind : ℕ) (body : List ℕ)
    → SpellsRecord bytes from to kind body
    → SpellsRecord (bytes ++ more) from to kind body

-- A wrong sum and a zero length are reported whatever bytes follow.
abbrev pub FaultsStay : Type 0
FaultsStay =
    (rest more : List ℕ) (at : ℕ)
    → (fault_at rest at ≡ Some (BadSum at) → fault_at (rest ++ more) at ≡ Some (BadSum at))
    × (fault_at rest at ≡ Some (ZeroLength at) → fault_at (rest ++ more) at ≡ Some (ZeroLength at))

-- A record that is cut off can be completed: some bytes that follow make it whole.
abbrev pub TruncatedCanBeCompleted : Type 0
TruncatedCanBeCompleted =
    (rest : List ℕ) (at : ℕ)
    → All (λ byte. byte < 256) rest
    → fault_at rest at ≡ Some (Truncated at)
    → (more : List ℕ) × All (λ byte. byte < 256) more × (fault_at (rest ++ more) at ≡ None)

-- A fault at a place is that the record there is cut off, or it isn't of a record cut off: then bytes stand there, and it is
-- reported whatever bytes follow.
abbrev pub OtherFaultsStay : Type 0
OtherFaultsStay =
    (bytes more : List ℕ) (at : ℕ) (fault : RecordFault)
    → fault_at (drop at bytes) at ≡ Some fault
    → (fault ≡ Truncated at)
    ⊎ (is_truncation fault ≡ false) × (at < length bytes) × (fault_at (drop at (bytes ++ more)) at ≡ Some fault)

-- A record that is cut off can be spoilt: some bytes that follow give it a wrong sum.
abbrev pub TruncatedCanBeSpoilt : Type 0
TruncatedCanBeSpoilt =
    (bytes : List ℕ) (at : ℕ)
    → at ≤ length bytes
    → fault_at (drop at bytes) at ≡ Some (Truncated at)
    → (more : List ℕ) × All (λ byte. byte < 256) more × (at < length (bytes ++ more))
    × (fault_at (drop at (bytes ++ more)) at ≡ Some (BadSum at))

-- What is written for a record spells it, wherever it stands.
abbrev pub WrittenIsSpelled : Type 0
WrittenIsSpelled =
    (before after : List ℕ) (kind : ℕ) (body : List ℕ)
    → SpellsRecord (before ++ spelling kind body ++ after) (length before) (length before + 4 + length body) kind body

-- Of bytes, only what is written for a record spells it.
abbrev pub SpelledIsWritten : Type 0
SpelledIsWritten =
    (bytes : List ℕ) (from to kind : ℕ) (body : List ℕ)
    → All (λ byte. byte < 256) bytes
    → SpellsRecord bytes from to kind body
    → slice_range bytes from to ≡ spelling kind body

-- Of two lists of records that are spelled from one place on, one begins the other.
abbrev pub OneListBeginsTheOther : Type 0
OneListBeginsTheOther =
    (bytes : List ℕ) (from to to' : ℕ) (records records' : List RecordValue)
    → SpellsRecords bytes from to records
    → SpellsRecords bytes from to' records'
    → ((more : List RecordValue) × (records' ≡ records ++ more)) ⊎ ((more : List RecordValue) × (records ≡ records' ++ more))

-- A stretch of bytes spells one list of records at most.
abbrev pub OneListAtEachStretch : Type 0
OneListAtEachStretch =
    (bytes : List ℕ) (from to : ℕ) (records records' : List RecordValue)
    → SpellsRecords bytes from to records
    → SpellsRecords bytes from to records'
    → records ≡ records'

-- Two stretches that meet spell their records together.
abbrev pub ListsJoin : Type 0
ListsJoin =
    (bytes : List ℕ) (from middle to : ℕ) (records records' : List RecordValue)
    → SpellsRecords bytes from middle records
    → SpellsRecords bytes middle to records'
    → SpellsRecords bytes from to (records ++ records')

-- A record that follows a list makes it longer by one.
abbrev pub ListGrows : Type 0
ListGrows =
    (bytes : List ℕ) (from middle to : ℕ) (records : List RecordValue) (next : RecordValue)
    → SpellsRecords bytes from middle records
    → SpellsRecord bytes middle to next.kind next.body
    → SpellsRecords bytes from to (records ++ next ∷ [])

-- A list that is spelled is spelled whatever bytes follow.
abbrev pub ListsStay : Type 0
ListsStay =
    (bytes more : List ℕ) (from to : ℕ) (records : List RecordValue)
    → SpellsRecords bytes from to records
    → SpellsRecords (bytes ++ more) from to records

-- What is written for records, one after another, spells them, wherever it stands.
abbrev pub WrittenListIsSpelled : Type 0
WrittenListIsSpelled =
    (before after : List ℕ) (records : List RecordValue)
    → SpellsRecords (before ++ spellings records ++ after) (length before) (length before + length (spellings records)) records

-- At a place no two names are spelled.
abbrev pub OneNameAtEachPlace : Type 0
OneNameAtEachPlace =
    (bytes : List ℕ) (from to to' : ℕ) (name name' : List ℕ)
    → SpellsName bytes from to name
    → SpellsName bytes from to' name'
    → (name ≡ name') × (to ≡ to')

-- A name is spelled at a place exactly where the bytes from there on begin with one.
abbrev pub NamesExactlyWhereHeld : Type 0
NamesExactlyWhereHeld =
    (bytes : List ℕ) (from : ℕ)
    → IsTrue (holds_name (drop from bytes))
    ↔ ((to : ℕ) × (name : List ℕ) × SpellsName bytes from to name)

-- A length byte and the bytes that it counts spell the name, wherever they stand.
abbrev pub WrittenNameIsSpelled : Type 0
WrittenNameIsSpelled =
    (before after name : List ℕ)
    → IsTrue (is_name name)
    → SpellsName (before ++ name_spelling name ++ after) (length before) (length before + 1 + length name) name
