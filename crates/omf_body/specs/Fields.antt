-- The fields of a body: the bytes that each is written as, and what the first bytes of a list read as: the field and the
-- bytes after it, or its fault. (8080 Object Module Formats, record formats.)
use Rattle.std.specs.Prelude.{ℕ, ◌+◌, ◌*◌, ◌==◌, if◌then◌else◌, List, [], ◌∷◌, drop, slice_index, Result, Ok, Err}
use Rattle.omf_core.specs.Name.{holds_counted, counted_bytes, is_name}
pub use Rattle.omf_core.specs.Record.{word_bytes}
use Rattle.omf_body.specs.declared.fault.FieldFault.{FieldFault}
use Rattle.omf_body.specs.declared.fault.FieldFault.TheVariants.{BadBody, BadName}
use Rattle.omf_body.specs.declared.field.Field.{Field}
use Rattle.omf_body.specs.declared.field.Field.TheVariants.{Low, High, Both}

-- one field after another
infixl 10 ◌>>=◌
abbrev pub ◌>>=◌ : {A B F : Type 0} → Result A F → (A → Result B F) → Result B F
(Ok x) >>= f = f x
(Err e) >>= f = Err e

abbrev pub read_byte : List ℕ → Result (ℕ × List ℕ) FieldFault
read_byte [] = Err BadBody
read_byte (byte ∷ rest) = Ok (byte, rest)

-- a word: low byte first
abbrev pub read_word : List ℕ → Result (ℕ × List ℕ) FieldFault
read_word [] = Err BadBody
read_word (byte ∷ []) = Err BadBody
read_word (low ∷ high ∷ rest) = Ok (low + 256 * high, rest)

-- a name: its length and its bytes must be there, and then be those of a name
abbrev pub read_name : List ℕ → Result (List ℕ × List ℕ) FieldFault
read_name bytes =
    if holds_counted bytes
    then (if is_name (counted_bytes bytes) then Ok (counted_bytes bytes, drop (slice_index bytes 0 + 1) bytes) else Err BadName)
    else Err BadBody

-- a field byte: 1 the low byte, 2 the high byte, 3 both
abbrev pub field_byte : Field → ℕ
field_byte Low = 1
field_byte High = 2
field_byte Both = 3

abbrev pub read_field : List ℕ → Result (Field × List ℕ) FieldFault
read_field [] = Err BadBody
read_field (byte ∷ rest) =
    if byte == 1 then Ok (Low, rest)
    else (if byte == 2 then Ok (High, rest) else (if byte == 3 then Ok (Both, rest) else Err BadBody))
