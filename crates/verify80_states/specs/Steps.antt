-- What holds of a state before a step of the machine, and what holds then after it. (This project's own.)
use Rattle.std.specs.Prelude.{◌≡◌, ℕ, Bool, true, false, List, Option, None, Some, slice_index, if◌then◌else◌}
use Rattle.decode80.specs.declared.flow.Flow.{Flow}
use Rattle.decode80.specs.declared.flow.Flow.TheVariants.{JumpsIf, Calls, CallsIf, Returns, ReturnsIf}
use Rattle.image80.specs.{Regions.Areas, Regions.in_code, Image.Located, Image.memory_of}
use Rattle.machine80.specs.{declared.flags.Flags.Flags, Flags.holds}
use Rattle.verify80_states.specs.Marks.{entry_at}

-- whether a jump, a call or a return that has a condition is taken; a call without one always is
abbrev pub is_taken : Flow → Flags → Bool
is_taken (JumpsIf condition to) flags = holds condition flags
is_taken (Calls to) flags = true
is_taken (CallsIf condition to) flags = holds condition flags
is_taken Returns flags = true
is_taken (ReturnsIf condition) flags = holds condition flags
is_taken w flags = false

-- a memory has the bytes of code
abbrev pub ReadsCode : (code : List (Option ℕ)) → (memory : List ℕ) → Type 0
ReadsCode code memory = (at byte : ℕ) → entry_at code at ≡ Some byte → slice_index memory at ≡ byte

-- the byte of a memory at an address, if code is there
abbrev pub code_in : Areas → (memory : List ℕ) → ℕ → Option ℕ
code_in regions memory at = if in_code regions at then Some (slice_index memory at) else None

-- the bytes are those of an image's code, by address
abbrev pub AreCodeBytes : Located → (code : List (Option ℕ)) → Type 0
AreCodeBytes image code = (at byte : ℕ) → entry_at code at ≡ Some byte →
    (in_code image.regions at ≡ true) × (slice_index (memory_of image.chunks) at ≡ byte)

-- a memory has the image's bytes wherever there is code
abbrev pub HasCode : Located → (memory : List ℕ) → Type 0
HasCode image memory = (address : ℕ) → in_code image.regions address ≡ true →
    slice_index memory address ≡ slice_index (memory_of image.chunks) address
