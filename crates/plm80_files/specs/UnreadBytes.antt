-- The bytes of an object file that aren't read: those behind its end record.
-- (8080 Object Module Formats: each record says its length; the last one is an end-of-file record, of type 0E.)
use Rattle.std.specs.Prelude.{◌≡◌, ◌≢◌, ℕ, ◌<◌, ◌≤◌, ◌==◌, ◌||◌, Bool, false, List, [], drop, length, slice_get, Some}
use Rattle.std.specs.List.{list_all}
use Rattle.omf_core.specs.Record.{record_size}

-- the bytes behind the first record
abbrev pub after_record : List ℕ → List ℕ
after_record bytes = drop (record_size bytes) bytes

-- what stands behind the end record, to which one comes record by record; nothing, if the bytes end before it
pub data IsBehindEnd : (bytes rest : List ℕ) → Type 0 where
  none : (bytes : List ℕ) → length bytes < record_size bytes → IsBehindEnd bytes []
  here : (bytes : List ℕ) → record_size bytes ≤ length bytes → slice_get bytes 0 ≡ Some 0x0E → IsBehindEnd bytes (after_record bytes)
  later : (bytes rest : List ℕ) → record_size bytes ≤ length bytes → slice_get bytes 0 ≢ Some 0x0E
      → IsBehindEnd (after_record bytes) rest → IsBehindEnd bytes rest

-- bytes that only fill up a file
abbrev pub is_filling : List ℕ → Bool
is_filling bytes = list_all (λ byte. byte == 0 || byte == 0x1A) bytes

-- `count` bytes are behind the end record, and don't only fill the file up
pub record AreUnread (bytes : List ℕ) (count : ℕ) : Type 0 where
  pub rest : List ℕ
  pub behind : IsBehindEnd bytes rest
  pub count_is : count ≡ length rest
  pub no_filling : is_filling rest ≡ false
