-- Paths in lines: a control character, and one that isn't seen or changes the order of others, is shown by its bytes in UTF-8, each as \x
-- and two digits, so that no path makes a line of its own, and each reads as what it is.
-- (Unicode, general categories Cc, Zl, Zp, and those of Cf that are used in text: U+00AD, U+061C, U+200B to U+200F, U+2028 to U+202E,
-- U+2060 to U+206F, U+FEFF. RFC 3629 has their bytes. The form is this project's own.)
use Rattle.std.specs.Prelude.{ℕ, ◌-◌, ◌==◌, nat_lt, nat_le, Bool, ◌&&◌, ◌||◌, if◌then◌else◌, List, [], ◌∷◌, ◌++◌, slice_index_or}
use Rattle.text80.specs.Digits.{byte_text}

-- characters of one byte, two and three that are shown by their bytes
abbrev pub is_hidden_byte : (first : ℕ) → Bool
is_hidden_byte first = nat_lt first 32 || first == 127

abbrev pub is_hidden_pair : (first second : ℕ) → Bool
is_hidden_pair first second = (first == 194 && (nat_lt second 160 || second == 173)) || (first == 216 && second == 156)

abbrev pub is_hidden_triple : (first second third : ℕ) → Bool
is_hidden_triple first second third =
    (first == 226 && second == 128 && ((nat_le 139 third && nat_le third 143) || (nat_le 168 third && nat_le third 174)))
    || ((first == 226 && second == 129 && (nat_le 160 third && nat_le third 175)) || (first == 239 && second == 187 && third == 191))

-- how many bytes the hidden character has that begins with these; 0 if none does. A missing byte is FF, which UTF-8 doesn't have
abbrev pub hidden_length : (first second third : ℕ) → ℕ
hidden_length first second third =
    if is_hidden_byte first then 1 else if is_hidden_pair first second then 2 else if is_hidden_triple first second third then 3 else 0

-- how many bytes from this one on are of a hidden character: `left` by the bytes before, or what this one begins
abbrev pub hidden_from : (left byte : ℕ) → List ℕ → ℕ
hidden_from left byte behind = if left == 0 then hidden_length byte (slice_index_or behind 0 255) (slice_index_or behind 1 255) else left

abbrev pub shown_byte : (hidden byte : ℕ) → List ℕ
shown_byte hidden byte = if hidden == 0 then byte ∷ [] else 92 ∷ 120 ∷ byte_text byte

abbrev pub shown_rest : (left : ℕ) → List ℕ → List ℕ
shown_rest left [] = []
shown_rest left (byte ∷ bytes) = shown_byte (hidden_from left byte bytes) byte ++ shown_rest (hidden_from left byte bytes - 1) bytes

abbrev pub shown_path : List ℕ → List ℕ
shown_path path = shown_rest 0 path
