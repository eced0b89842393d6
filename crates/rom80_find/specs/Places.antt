-- Where the bytes of a module's code lie in a dump.
use Rattle.std.specs.Prelude.{◌≡◌, ℕ, ◌+◌, ◌%◌, ◌<◌, ◌≤◌, ◌==◌, Bool, true, false, not, ◌&&◌, ◌||◌, nat_le, if◌then◌else◌, Some, List, [], ◌∷◌, length, slice_index_or}
use Rattle.std.specs.List.{AllByRecursion, AllPairs, list_all, list_any}
use Rattle.std.specs.Option.{option_map_or}
use Rattle.rom80_find.specs.Dump.{DumpValue, dump_byte}
use Rattle.rom80_pattern.specs.declared.code_byte.CodeByte.{CodeByte}
use Rattle.rom80_pattern.specs.CodeBytes.{number_of, byte_by, is_low, is_plain}
use Rattle.rom80_find.specs.declared.candidates.Candidates.{Candidates}
use Rattle.rom80_find.specs.declared.candidates.Candidates.TheVariants.{Any}
use Rattle.rom80_find.specs.Candidates.{is_candidate, is_half}

-- With CODE at this address and these values of targets the dump has each byte of the code.
pub record LiesWith (dump : DumpValue) (code : List CodeByte) (address : ℕ) (value : ℕ → ℕ) : Type 0 where
  pub absolute : value 0 ≡ 0
  pub here : value 1 ≡ address
  pub bytes : AllByRecursion (λ b. dump_byte dump ((address + b.offset) % 65536) ≡ Some (byte_by value b)) code

-- With some values the dump has each byte of the code, with CODE at this address.
pub record LiesAt (dump : DumpValue) (code : List CodeByte) (address : ℕ) : Type 0 where
  pub value : ℕ → ℕ
  pub lies : LiesWith dump code address value

-- Whatever values the code lies at the address with, that of this number is the word, modulo 65536.
abbrev pub IsOnly : (dump : DumpValue) (code : List CodeByte) (address number word : ℕ) → Type 0
IsOnly dump code address number word =
    (value : ℕ → ℕ) → LiesWith dump code address value → value number % 65536 ≡ word

-- ---- number by number

-- with this word as the target's value the dump has the byte
abbrev pub fits : DumpValue → (address : ℕ) → CodeByte → (word : ℕ) → Bool
fits dump address b word =
    option_map_or (λ d. is_half b.half b.addend d word) (dump_byte dump ((address + b.offset) % 65536)) false

-- the word may be the value with this number, as far as two values are known: absolute 0 is 0, and CODE's base is the address
abbrev pub is_known : (address number word : ℕ) → Bool
is_known address number word = if number == 0 then word == 0 else if number == 1 then word == address else true

-- the dump has the byte if the value with this number is the word, unless the byte is of another value
abbrev pub fits_for : DumpValue → (address number word : ℕ) → CodeByte → Bool
fits_for dump address number word b = not (number_of b.target == number) || fits dump address b word

-- the value with this number may be this word
abbrev pub allows : DumpValue → (code : List CodeByte) → (address number word : ℕ) → Bool
allows dump code address number word =
    is_known address number word && list_all (fits_for dump address number word) code

-- the word is a candidate for the value with this number in the table
abbrev pub in_table : List Candidates → (number word : ℕ) → Bool
in_table table number word = is_candidate (slice_index_or table number Any) word

-- the table has for each number the words that the value may be
pub record Describes (dump : DumpValue) (code : List CodeByte) (address : ℕ) (table : List Candidates) : Type 0 where
  pub each : (number word : ℕ) → number < length table → word < 65536 →
      in_table table number word ≡ allows dump code address number word

-- every value but those of absolute bytes, of CODE and of these bytes may be every word
abbrev pub IsClearBut : List CodeByte → List Candidates → Type 0
IsClearBut code table =
    (number : ℕ) → 2 ≤ number → list_all (λ b. not (number_of b.target == number)) code ≡ true → slice_index_or table number Any ≡ Any

-- there is no word that the value with some number may be
pub record HasNone (dump : DumpValue) (code : List CodeByte) (address : ℕ) : Type 0 where
  pub number : ℕ
  pub none : (word : ℕ) → word < 65536 → allows dump code address number word ≡ false

-- every target of the code has a number below this one
abbrev pub AreBelow : (count : ℕ) → List CodeByte → Type 0
AreBelow count code = AllByRecursion (λ b. number_of b.target < count) code

-- if the byte is one outside fixups, the dump has it
abbrev pub fits_if_plain : DumpValue → (address : ℕ) → CodeByte → Bool
fits_if_plain dump address b = not (is_plain b) || fits dump address b 0

-- the address is in the list
abbrev pub is_listed : List ℕ → ℕ → Bool
is_listed places address = list_any (λ p. p == address) places

-- the list has, in ascending order, exactly the addresses below one at which the code lies
pub record ArePlaces (dump : DumpValue) (code : List CodeByte) (stop : ℕ) (places : List ℕ) : Type 0 where
  pub lies : (address : ℕ) → is_listed places address ≡ true → (address < stop) × LiesAt dump code address
  pub all : (address : ℕ) → address < stop → LiesAt dump code address → is_listed places address ≡ true
  pub ascending : AllPairs (λ (p q : ℕ). p < q) places

-- the address, if the answer is that the code lies there
abbrev pub place_if : (answer : Bool) → (address : ℕ) → List ℕ
place_if true address = address ∷ []
place_if false address = []
