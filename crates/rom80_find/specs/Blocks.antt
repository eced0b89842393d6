-- Bytes of a dump at 4,096 addresses in a row, and the values of targets that they leave.
use Rattle.std.specs.Prelude.{◌≡◌, ℕ, ◌+◌, ◌-◌, ◌*◌, ◌/◌, ◌%◌, ◌<◌, ◌==◌, Bool, true, if◌then◌else◌, Some, List, length, slice_index_or}
use Rattle.std.specs.List.{list_all}
use Rattle.rom80_find.specs.Dump.{DumpValue, dump_byte}
use Rattle.rom80_pattern.specs.declared.code_byte.CodeByte.{CodeByte}
use Rattle.rom80_find.specs.Fixups.{AreFixupsOf, HasWord, all_fit}
use Rattle.rom80_find.specs.Marks.{AreMarks, passes}
use Rattle.rom80_find.specs.Places.{LiesAt, is_known}

-- where the dump has a byte, it is the one at the address in the list; all addresses twice, up to one number
pub record AreBytes (dump : DumpValue) (stop : ℕ) (bytes : List ℕ) : Type 0 where
  pub whole : length bytes ≡ stop
  pub each : (k byte : ℕ) → k < stop → dump_byte dump (k % 65536) ≡ Some byte → slice_index_or bytes k 0 ≡ byte

-- what is looked up in a dump
pub record IsIndexed (dump : DumpValue) (rows items : List ℕ) : Type 0 where
  pub marks : AreMarks dump 131072 rows
  pub bytes : AreBytes dump 131072 items

-- where the dump has a byte at one of the 4,096 addresses from the first on, it is the one in the list
pub record AreFound (dump : DumpValue) (first : ℕ) (found : List ℕ) : Type 0 where
  pub whole : length found ≡ 4096
  pub each : (k byte : ℕ) → k < 4096 → dump_byte dump ((first + k) % 65536) ≡ Some byte → slice_index_or found k 0 ≡ byte

-- ---- the value of one target

-- the value at an address of the block
abbrev pub word_at : (lows highs : List ℕ) (k : ℕ) → ℕ
word_at lows highs k = 256 * slice_index_or highs k 0 + slice_index_or lows k 0

-- a byte less another one, modulo 256
abbrev pub less : (byte other : ℕ) → ℕ
less byte other = (byte + (256 - other)) % 256

-- the high byte of the sum of the addend and the word of two bytes: that of the high bytes, and the carry
abbrev pub high_sum : (high low addend : ℕ) → ℕ
high_sum high low addend = (high + addend / 256 + (low + addend % 256) / 256) % 256

-- the least low byte with which a sum with the addend carries, if the high byte that was found isn't the one without a carry
abbrev pub low_needed : (high addend found : ℕ) → ℕ
low_needed high addend found = if (high + addend / 256) % 256 == found then 0 else less 0 (addend % 256)

-- the word is one with which the dump has the bytes, if any is
pub record IsBest (dump : DumpValue) (address number : ℕ) (bytes : List CodeByte) (value : ℕ) : Type 0 where
  pub small : value < 65536
  pub known : is_known address number value ≡ true
  pub best : (word : ℕ) → word < 65536 → is_known address number word ≡ true → all_fit dump address bytes word ≡ true
      → all_fit dump address bytes value ≡ true

-- a mark is cleared exactly if there is a word with which the dump has the bytes and it was clear
pub record IsNarrowed (dump : DumpValue) (address number : ℕ) (bytes : List CodeByte) (old new : ℕ) : Type 0 where
  pub before : new ≡ 0 → old ≡ 0
  pub yes : new ≡ 0 → HasWord dump address number bytes
  pub no : old ≡ 0 → HasWord dump address number bytes → new ≡ 0

-- a mark is clear exactly if it was and the bytes lie at the address
pub record IsFitted (dump : DumpValue) (bytes : List CodeByte) (address old new : ℕ) : Type 0 where
  pub before : new ≡ 0 → old ≡ 0
  pub yes : new ≡ 0 → LiesAt dump bytes address
  pub no : old ≡ 0 → LiesAt dump bytes address → new ≡ 0

-- For some addresses from one on: the answers of the sieve, and marks, which are clear if it lets the address pass and the bytes in fixups lie
-- there.
pub record AreFitted (dump : DumpValue) (code fixups : List CodeByte) (first count : ℕ) (pass : ℕ → Bool) (wrong : List ℕ) : Type 0 where
  pub sorted : AreFixupsOf code fixups
  pub passed : (i : ℕ) → i < count → pass i ≡ list_all (passes dump (first + i)) code
  pub fitted : (i : ℕ) → i < count → pass i ≡ true → IsFitted dump fixups (first + i) 0 (slice_index_or wrong i 0)
