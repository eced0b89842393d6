-- Names, and how bytes spell one.
-- (8080 Object Module Formats: a name is a length byte and that many characters.)
use Rattle.std.specs.Prelude.{◌≡◌, ℕ, ◌+◌, ◌≤◌, nat_eq, nat_lt, nat_le, Bool, ◌&&◌, IsTrue, List, ◌∷◌, length, take, drop, slice_index, slice_range}
use Rattle.std.specs.Cmp.Lexicographic.{pointwise}
use Rattle.std.specs.List.{list_all}

-- a printed character of ASCII, no blank
abbrev pub is_name_byte : ℕ → Bool
is_name_byte byte = nat_le 0x21 byte && nat_le byte 0x7E

-- 1 to 255 of those
abbrev pub is_name : List ℕ → Bool
is_name bytes = nat_le 1 (length bytes) && nat_le (length bytes) 255 && list_all is_name_byte bytes

-- two names are the same, byte for byte
abbrev pub same_name : List ℕ → List ℕ → Bool
same_name = pointwise nat_eq

-- The bytes from place `from` up to place `to` spell the name: a byte that counts them, and its bytes.
pub record SpellsName (bytes : List ℕ) (from to : ℕ) (name : List ℕ) : Type 0 where
  pub length_byte : slice_index bytes from ≡ length name
  pub name_bytes : slice_range bytes (from + 1) to ≡ name
  pub all_counted : to ≡ from + 1 + length name
  pub within : to ≤ length bytes
  pub is_one : IsTrue (is_name name)

-- the bytes that follow the length byte with which `rest` begins, as many as it counts
abbrev pub counted_bytes : List ℕ → List ℕ
counted_bytes rest = take (slice_index rest 0) (drop 1 rest)

-- the bytes hold all that the length byte counts with which they begin
abbrev pub holds_counted : List ℕ → Bool
holds_counted rest = nat_lt (slice_index rest 0) (length rest)

-- the bytes begin with a name
abbrev pub holds_name : List ℕ → Bool
holds_name rest = holds_counted rest && is_name (counted_bytes rest)

-- the bytes that are written for a name
abbrev pub name_spelling : List ℕ → List ℕ
name_spelling name = length name ∷ name
