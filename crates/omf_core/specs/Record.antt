-- How bytes spell a record, and why they spell none.
-- (8080 Object Module Formats: RECORD TYPE, RECORD LENGTH, the body, CHECK SUM.)
use Rattle.std.specs.Prelude.{◌≡◌, ℕ, ◌+◌, ◌-◌, ◌*◌, ◌/◌, ◌%◌, ◌≤◌, ◌==◌, nat_lt, Bool, if◌then◌else◌, List, [], ◌∷◌, ◌++◌, length, take, sum, slice_index, slice_range, Option, Some, None}
use Rattle.omf_core.specs.declared.fault.RecordFault.{RecordFault}
use Rattle.omf_core.specs.declared.fault.RecordFault.TheVariants.{Truncated, BadSum, ZeroLength}

-- the sum of the bytes, modulo 256
abbrev pub byte_sum : List ℕ → ℕ
byte_sum bytes = sum bytes % 256

-- the word at place i, low byte first
abbrev pub word_at : List ℕ → ℕ → ℕ
word_at bytes i = slice_index bytes i + 256 * slice_index bytes (i + 1)

-- the bytes that are written for a word, low byte first
abbrev pub word_bytes : ℕ → List ℕ
word_bytes word = word % 256 ∷ word / 256 ∷ []

-- The bytes from place `from` up to place `to` spell the record of this kind and body:
-- the kind, a length word that counts all bytes after it, the body, and a checksum that makes the sum of all 0 modulo 256.
pub record SpellsRecord (bytes : List ℕ) (from to kind : ℕ) (body : List ℕ) : Type 0 where
  pub kind_byte : slice_index bytes from ≡ kind
  pub length_word : word_at bytes (from + 1) ≡ length body + 1
  pub body_bytes : slice_range bytes (from + 3) (to - 1) ≡ body
  pub all_counted : to ≡ from + 4 + length body
  pub within : to ≤ length bytes
  pub sum_zero : byte_sum (slice_range bytes from to) ≡ 0

-- Below, `rest` is what stands from a place on.

-- how many bytes the record that begins `rest` has, as its length word says
abbrev pub record_size : List ℕ → ℕ
record_size rest = 3 + word_at rest 1

-- the kind and the body of that record
abbrev pub head_kind : List ℕ → ℕ
head_kind rest = slice_index rest 0

abbrev pub head_body : List ℕ → List ℕ
head_body rest = slice_range rest 3 (record_size rest - 1)

-- the bytes end before the record does: there are fewer than 3, or fewer than its length word asks for
-- (a byte of the length word that isn't there counts as 0)
abbrev pub is_truncated : List ℕ → Bool
is_truncated rest = nat_lt (length rest) (record_size rest)

-- the length word leaves no room for the checksum that it counts
abbrev pub has_zero_length : List ℕ → Bool
has_zero_length rest = word_at rest 1 == 0

-- the record's bytes sum to 0 modulo 256
abbrev pub has_zero_sum : List ℕ → Bool
has_zero_sum rest = byte_sum (take (record_size rest) rest) == 0

-- the first fault of the record that begins `rest`, which stands at place `at`
abbrev pub fault_at : List ℕ → ℕ → Option RecordFault
fault_at rest at =
    if is_truncated rest then Some (Truncated at)
    else (if has_zero_length rest then Some (ZeroLength at)
    else (if has_zero_sum rest then None else Some (BadSum at)))

-- the bytes of a record before its checksum
abbrev pub unsummed : ℕ → List ℕ → List ℕ
unsummed kind body = kind ∷ (length body + 1) % 256 ∷ (length body + 1) / 256 ∷ body

-- the byte that brings the sum of these bytes to 0 modulo 256
abbrev pub checksum : List ℕ → ℕ
checksum bytes = (256 - byte_sum bytes) % 256

-- the bytes that are written for a record
abbrev pub spelling : ℕ → List ℕ → List ℕ
spelling kind body = unsummed kind body ++ checksum (unsummed kind body) ∷ []
