-- What the functions of the reader of boards promise one another.
-- (The text of a board is this project's own.)
use Rattle.std.specs.Prelude.{◌≡◌, ℕ, ◌+◌, ◌==◌, ◌&&◌, Bool, false, nat_le, nat_lt, slice_index_or, List, [], ◌∷◌, ◌++◌, length, codes, All}
use Rattle.image80.specs.declared.range.Range.{Range}
use Rattle.board80.specs.declared.line.Line.{Line}
use Rattle.board80.specs.declared.line.Line.TheVariants.{Reads}
use Rattle.board80.specs.declared.slots.Slots.{Slots}
use Rattle.board80.specs.Board.{is_taken, in_device}
use Rattle.board80.specs.BoardText.{line_text}

-- a text is at the end of a word: it is empty, or a space comes
abbrev pub IsAtEnd : List ℕ → Type 0
IsAtEnd [] = Unit {0}
IsAtEnd (byte ∷ bytes) = byte ≡ 32

-- no space among the bytes
abbrev pub IsWord : List ℕ → Type 0
IsWord word = All (λ byte. (byte == 32) ≡ false) word

-- whether a slot is one of consecutive ones
abbrev pub in_slots : Slots → ℕ → Bool
in_slots slots slot = nat_le slots.first slot && nat_lt slot (slots.first + slots.count)

-- whether a slot is marked
abbrev pub is_marked : List Bool → ℕ → Bool
is_marked marks slot = slice_index_or marks slot false

-- the slots that lines take, and the addresses of devices
pub record SeenSlots : Type 0 where
  pub taken : List Bool
  pub devices : List Bool

-- these lines were seen, and no others
pub record HasSeen (seen : SeenSlots) (lines : List Line) : Type 0 where
  pub taken : (slot : ℕ) → is_marked seen.taken slot ≡ is_taken lines slot
  pub devices : (address : ℕ) → is_marked seen.devices address ≡ in_device lines address

-- one slot
abbrev pub one_slot : ℕ → Slots
one_slot slot = record { first = slot; count = 1 }

-- those of a range's addresses
abbrev pub range_slots : Range → Slots
range_slots range = record { first = range.first; count = range.length }

-- how many slots there are
abbrev pub slot_count : ℕ
slot_count = 196864

-- marks of which none is set
pub record AreUnmarked (marks : List Bool) (count : ℕ) : Type 0 where
  pub whole : length marks ≡ count
  pub none : (slot : ℕ) → is_marked marks slot ≡ false

-- a line without answers
abbrev pub IsPlain : Line → Type 0
IsPlain (Reads place answers) = ⊥
IsPlain _ = Unit {0}

-- what follows the word of a line of answers
abbrev pub IsPortLine : List ℕ → Line → Type 0
IsPortLine text line = codes "PORT " ++ text ≡ line_text line

abbrev pub IsCellLine : List ℕ → Line → Type 0
IsCellLine text line = codes "AT " ++ text ≡ line_text line
