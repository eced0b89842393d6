-- What holds of counts, and of faults that stay whatever bytes follow. (It follows from the layout of records.)
use Rattle.std.specs.Prelude.{◌≡◌, ℕ, ◌<◌, List, All}
use Rattle.omf_core.specs.declared.fault.RecordFault.{RecordFault}
use Rattle.omf_core.specs.Lasting.{StayLasting}
use Rattle.omf_core.specs.Feed.{CountsRecords, FirstRecordFault, LastingRecordFault}

-- Bytes have one first fault at most.
abbrev pub OneRecordFault : Type 0
OneRecordFault = (bytes : List ℕ) (f f' : RecordFault) → FirstRecordFault bytes f → FirstRecordFault bytes f' → f ≡ f'

-- Bytes have one count of whole records.
abbrev pub OneCount : Type 0
OneCount = (bytes : List ℕ) (count count' : ℕ) → CountsRecords bytes count → CountsRecords bytes count' → count ≡ count'

-- A fault that lasts of some bytes lasts of those and any others.
abbrev pub LastingFaultsLast : Type 0
LastingFaultsLast = StayLasting FirstRecordFault

-- If the whole records are counted, no fault lasts.
abbrev pub CountedHaveNone : Type 0
CountedHaveNone =
    (bytes : List ℕ) (count : ℕ) (fault : RecordFault)
    → All (λ byte. byte < 256) bytes
    → CountsRecords bytes count
    → LastingRecordFault bytes fault
    → ⊥
