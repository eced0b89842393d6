-- A name is text.
use Rattle.std.proofs.Common.{◌≡◌, ℕ, ◌<◌, List, length, slice_index_or, nat_le, ◌&&◌, true, arith, IsTrue}
use Rattle.std.specs.List.{list_all, All}
use Rattle.std.specs.Str.{IsUtf8}
use Rattle.std.proofs.lemmas.Str.{IsUtf8-from_ascii}
use Rattle.std.proofs.lemmas.Str.Ascii.{IsAscii-from_all}
use Rattle.std.proofs.lemmas.List.Sums.{AllPass-from_list_all}
use Rattle.std.proofs.lemmas.Bool.{and_parts, leb-true}
use Rattle.omf_core.specs.Name.{is_name, is_name_byte}

below_128 : (byte : ℕ) → is_name_byte byte ≡ true → byte < 128
below_128 byte test =
    let parts = and_parts (nat_le 0x21 byte) (nat_le byte 0x7E) test in
    let most = leb-true byte 0x7E parts.1 in
    omega arith

all_below_128 : (bytes : List ℕ) → list_all is_name_byte bytes ≡ true → All (λ byte. byte < 128) bytes
all_below_128 bytes all k d within = below_128 (slice_index_or bytes k d) (AllPass-from_list_all is_name_byte bytes all k d within)

pub IsUtf8-name : (bytes : List ℕ) → IsTrue (is_name bytes) → IsUtf8 bytes
IsUtf8-name bytes taken =
    let parts = and_parts (nat_le 1 (length bytes) && nat_le (length bytes) 255) (list_all is_name_byte bytes) taken in
    IsUtf8-from_ascii bytes (IsAscii-from_all bytes (all_below_128 bytes parts.1))
