-- What is printed of the names of addresses: behind a line the name of the address that stands in it, before a line of a listing
-- the name of its instruction. (As the symbols of ISIS-II's debuggers; the form of the lines is this project's own.)
use Rattle.std.specs.Prelude.{◌≡◌, ◌<◌, ℕ, zero, suc, ◌+◌, ◌-◌, ◌*◌, ◌==◌, Bool, true, if◌then◌else◌, Option, Some, None, List, [], ◌∷◌, ◌++◌, length, take, drop, codes, find, position, nat_eq}
use Rattle.std.specs.Cmp.Lexicographic.{pointwise}
use Rattle.std.specs.Fmt.{digits}
use Rattle.std.specs.Option.{option_and_then, option_map, option_map_or, option_or}
use Rattle.text80.specs.Digits.{word_text}
use Rattle.image80.specs.declared.range.Range.{Range}
use Rattle.image80.specs.Range.{in_range}
use Rattle.image80.specs.Lines.{parts}
use Rattle.omf_model.specs.declared.symbols.Public.{Public}
use Rattle.image80_text.specs.Names.{public_at, IsNearestOf}

-- ---- the name of an address

-- the first public at an address, or else the one at the next address below that has one, at most a given number of addresses down
unfoldable pub nearest_from : List Public → (down address : ℕ) → Option Public
nearest_from publics zero address = public_at publics address
nearest_from publics (suc down) address = option_or (public_at publics address) (nearest_from publics down (address - 1))

-- the nearest public at or below an address in the range of code that contains it
abbrev pub nearest_of : List Range → List Public → ℕ → Option Public
nearest_of code publics address =
    option_and_then (λ range. nearest_from publics (address - range.first) address) (find (λ range. in_range range address) code)

-- how far an address is above its public, in hexadecimal without zeros in front
abbrev pub distance_text : ℕ → List ℕ
distance_text distance = if distance == 0 then [] else 43 ∷ digits 16 true distance

-- a blank and the name of an address so far above a public
abbrev pub above_text : ℕ → Public → List ℕ
above_text distance p = 32 ∷ (p.name ++ distance_text distance)

-- a blank and the name of an address: that of the nearest public, with the distance; nothing if there is none
abbrev pub name_text : List Range → List Public → ℕ → List ℕ
name_text code publics address =
    option_map_or (λ p. above_text (address - p.offset) p) (nearest_of code publics address) []

-- ---- the address in a line

-- the value of an upper case hexadecimal digit
abbrev pub digit_value : ℕ → Option ℕ
digit_value byte = position (λ digit. digit == byte) (codes "0123456789ABCDEF")

abbrev pub pair_value : (high low : ℕ) → Option ℕ
pair_value high low = option_and_then (λ h. option_map (λ l. h * 16 + l) (digit_value low)) (digit_value high)

-- the address whose four digits a text begins with
abbrev pub address_at : List ℕ → Option ℕ
address_at (a ∷ b ∷ c ∷ d ∷ rest) = option_and_then (λ h. option_map (λ l. h * 256 + l) (pair_value c d)) (pair_value a b)
address_at text = None

abbrev pub is_blank : ℕ → Bool
is_blank byte = byte == 32

-- what stands behind the first blank of a line
abbrev pub behind_blank : List ℕ → List ℕ
behind_blank line = option_map_or (λ n. drop (n + 1) line) (position is_blank line) []

-- the address of an instruction's line: its first four digits, or those behind its number
abbrev pub instruction_address : (numbered : Bool) → List ℕ → Option ℕ
instruction_address numbered line = address_at (if numbered then behind_blank line else line)

-- the address that follows a word at the beginning of a line
abbrev pub address_behind : (word : List ℕ) → List ℕ → Option ℕ
address_behind word line = if pointwise nat_eq (take (length word) line) word then address_at (drop (length word) line) else None

-- ---- lines

-- Each line of a text in another form. What follows the last line feed stays.
abbrev pub each_line : (List ℕ → List ℕ) → List (List ℕ) → List ℕ
each_line shown [] = []
each_line shown (last ∷ []) = last
each_line shown (line ∷ next ∷ lines) = shown line ++ 10 ∷ each_line shown (next ∷ lines)

-- the name of the first public at an address, as a line of its own
abbrev pub label_text : List Public → ℕ → List ℕ
label_text publics address = option_map_or (λ p. p.name ++ 10 ∷ []) (public_at publics address) []

-- a line of an instruction, with the line of its name before it
abbrev pub labelled_line : List Public → (numbered : Bool) → List ℕ → List ℕ
labelled_line publics numbered line = option_map_or (label_text publics) (instruction_address numbered line) [] ++ line

-- a line with the name of the address that follows its first word, if it is this one
abbrev pub named_line : List Range → List Public → (word : List ℕ) → List ℕ → List ℕ
named_line code publics word line = line ++ option_map_or (name_text code publics) (address_behind word line) []

-- the lines of instructions, each with the line of its name before it
abbrev pub labelled_text : List Public → (numbered : Bool) → List ℕ → List ℕ
labelled_text publics numbered text = each_line (labelled_line publics numbered) (parts text)

-- a text with names behind the lines that begin with this word
abbrev pub named_text : List Range → List Public → (word : List ℕ) → List ℕ → List ℕ
named_text code publics word text = each_line (named_line code publics word) (parts text)

-- ---- laws

-- Without publics a text stays as it is, character for character.
abbrev pub NoPublicsNoNames : Type 0
NoPublicsNoNames =
    (text : List ℕ)
    → ((numbered : Bool) → labelled_text [] numbered text ≡ text)
    × ((code : List Range) (word : List ℕ) → named_text code [] word text ≡ text)

-- An address that is printed in four digits is the one that is named.
abbrev pub PrintedAddressIsNamed : Type 0
PrintedAddressIsNamed = (address : ℕ) (rest : List ℕ) → address < 65536 → address_at (word_text address ++ rest) ≡ Some address

-- The nearest public is the greatest at or below the address in its range of code, and of several there the first; none exactly
-- where no public is in that range at or below the address, or no range has it.
abbrev pub NearestIsGreatest : Type 0
NearestIsGreatest =
    (code : List Range) (publics : List Public) (address : ℕ) → IsNearestOf code address publics (nearest_of code publics address)
