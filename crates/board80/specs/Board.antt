-- The rules of a board, what a text spells, and why it is refused.
-- (The text is this project's own.)
use Rattle.std.specs.Prelude.{◌≡◌, ℕ, ◌+◌, ◌<◌, ◌==◌, ◌^◌, Bool, true, false, ◌&&◌, List, [], ◌∷◌, ◌++◌, length, map, All, filter_map, Option, Some, None, IfSome, slice_index_or}
use Rattle.std.specs.List.{list_any}
use Rattle.image80.specs.declared.range.Range.{Range}
use Rattle.image80.specs.Lines.{parts}
use Rattle.image80.specs.Range.{in_range, IsInMemory}
use Rattle.board80.specs.declared.answers.Answers.{Answers}
use Rattle.board80.specs.declared.answers.Answers.TheVariants.{Listed, By}
use Rattle.board80.specs.declared.byte_list.Bytes.{Bytes}
use Rattle.board80.specs.declared.byte_list.Bytes.TheVariants.{One, Group}
use Rattle.board80.specs.declared.byte_list.Item.{Item}
use Rattle.board80.specs.declared.fault.BoardFault.{BoardFault}
use Rattle.board80.specs.declared.fault.BoardFault.TheVariants.{BadVersion, BadLine, RangesOverlap, PortTwice, AddressTwice, OutsideDevice, Memory as NoMemory}
use Rattle.board80.specs.declared.line.Kind.{Kind}
use Rattle.board80.specs.declared.line.Kind.TheVariants.{Rom, Ram, Device}
use Rattle.board80.specs.declared.line.Line.{Line}
use Rattle.board80.specs.declared.line.Line.TheVariants.{Memory, Interrupt, Reads}
use Rattle.board80.specs.declared.place.Place.{Place}
use Rattle.board80.specs.declared.place.Place.TheVariants.{Port, Cell}
use Rattle.board80.specs.declared.table.Row.{Row}
use Rattle.board80.specs.BoardText.{heading, list_text, line_text, board_text}
use Rattle.board80.specs.ByteList.{ListedBytes}
use Rattle.board80.specs.Group.{GroupBytes}
use Rattle.board80.specs.Table.{TableRows}

-- numbers that are bytes
abbrev pub AreBytes : List ℕ → Type 0
AreBytes bytes = All (λ byte. byte < 256) bytes

pub record IsGroup (group : GroupBytes) : Type 0 where
  pub first : group.first < 256
  pub others : AreBytes group.others

abbrev pub AreItemBytes : Bytes → Type 0
AreItemBytes (One byte) = byte < 256
AreItemBytes (Group group) = IsGroup group

-- an item comes once at least, and 64 bits hold how many times
pub record IsItem (item : Item) : Type 0 where
  pub bytes : AreItemBytes item.bytes
  pub some : 0 < item.times
  pub fits : item.times < 2 ^ 64

-- a list has an item, or bytes for ever
pub record IsList (list : ListedBytes) : Type 0 where
  pub items : All IsItem list.items
  pub for_ever : IfSome list.for_ever AreItemBytes
  pub some : ¬ (list_text list ≡ [])

abbrev pub IsPlace : Place → Type 0
IsPlace (Port port) = port < 256
IsPlace (Cell address) = address < 65536

pub record IsRow (row : Row) : Type 0 where
  pub byte : row.byte < 256
  pub answer : row.answer < 256

-- rows by their bytes, each byte once
abbrev pub IsAscending : List Row → Type 0
IsAscending rows = (k : ℕ) (d : Row) → k + 1 < length rows → (slice_index_or rows k d).byte < (slice_index_or rows (k + 1) d).byte

pub record IsTable (table : TableRows) : Type 0 where
  pub source : IsPlace table.source
  pub rows : All IsRow table.rows
  pub ascending : IsAscending table.rows
  pub other : table.other < 256

abbrev pub AreAnswers : Answers → Type 0
AreAnswers (Listed list) = IsList list
AreAnswers (By table) = IsTable table

-- the rule of a line alone: a range has an address and ends in memory; numbers are bytes and addresses
abbrev pub IsProper : Line → Type 0
IsProper (Memory kind range) = IsInMemory range × (0 < range.length)
IsProper (Interrupt address) = address < 65536
IsProper (Reads place answers) = IsPlace place × AreAnswers answers

-- What a line takes for itself is numbered: 0 to 65535 are the addresses of memory, from 65536 on the interrupts by their
-- addresses, from 131072 on the cells that are read, and from 196608 on the ports.
abbrev pub takes : Line → ℕ → Bool
takes (Memory kind range) slot = in_range range slot
takes (Interrupt address) slot = slot == 65536 + address
takes (Reads (Cell address) answers) slot = slot == 131072 + address
takes (Reads (Port port) answers) slot = slot == 196608 + port

-- whether one of the lines takes it
abbrev pub is_taken : List Line → ℕ → Bool
is_taken lines slot = list_any (λ line. takes line slot) lines

-- whether a line says that an address is a device's
abbrev pub gives_device : Line → ℕ → Bool
gives_device (Memory Device range) address = in_range range address
gives_device _ address = false

-- whether an address is a device's by these lines
abbrev pub in_device : List Line → ℕ → Bool
in_device lines address = list_any (λ line. gives_device line address) lines

-- a cell is one of a device
abbrev pub is_place_inside : List Line → Place → Bool
is_place_inside lines (Port port) = true
is_place_inside lines (Cell address) = in_device lines address

abbrev pub is_source_inside : List Line → Answers → Bool
is_source_inside lines (Listed list) = true
is_source_inside lines (By table) = is_place_inside lines table.source

-- the cells that a line reads or goes by are those of devices, by lines before it
abbrev pub is_inside : List Line → Line → Bool
is_inside lines (Reads place answers) = is_place_inside lines place && is_source_inside lines answers
is_inside lines _ = true

-- a line takes nothing that one before it takes
abbrev pub IsFree : List Line → Line → Type 0
IsFree before line = (slot : ℕ) → takes line slot ≡ true → is_taken before slot ≡ false

-- a line keeps the rules after those before it
pub record Fits (before : List Line) (line : Line) : Type 0 where
  pub proper : IsProper line
  pub free : IsFree before line
  pub inside : is_inside before line ≡ true

-- the rules of a board: each line fits after those before it
abbrev pub IsBoard : List Line → Type 0
IsBoard lines = (before : List Line) (line : Line) (after : List Line) → lines ≡ before ++ line ∷ after → Fits before line

-- the range of a line, if it is of this kind of memory
abbrev pub range_of : Kind → Line → Option Range
range_of Rom (Memory Rom range) = Some range
range_of Ram (Memory Ram range) = Some range
range_of Device (Memory Device range) = Some range
range_of _ _ = None

-- the ranges of one kind, in the order of the lines
abbrev pub ranges_of : Kind → List Line → List Range
ranges_of kind lines = filter_map (range_of kind) lines

-- the address of a line's interrupt
abbrev pub interrupt_of : Line → Option ℕ
interrupt_of (Interrupt address) = Some address
interrupt_of _ = None

-- the addresses of interrupts, in the order of the lines
abbrev pub interrupts_of : List Line → List ℕ
interrupts_of lines = filter_map interrupt_of lines

-- the text spells the board
pub record Spells (text : List ℕ) (lines : List Line) : Type 0 where
  pub same : text ≡ board_text lines
  pub rules : IsBoard lines

-- after the first line the parts of the text, between its line feeds, are the lines of a board, and then others
pub record GoodStart (text : List ℕ) (lines : List Line) (others : List (List ℕ)) : Type 0 where
  pub cut : parts text ≡ heading ∷ (map line_text lines ++ others)
  pub rules : IsBoard lines

-- a part that is no line after good ones: the last part of the text, which lacks its line feed, or one that no proper line
-- spells
abbrev pub IsBadLine : List ℕ → List (List ℕ) → Type 0
IsBadLine part [] = ¬ (part ≡ [])
IsBadLine part (other ∷ others) = (line : Line) → IsProper line → ¬ (part ≡ line_text line)

-- the first bad line, counted from 1: the text ends within its first line, or a bad line follows good ones
pub data IsFirstBadLine (text : List ℕ) (number : ℕ) : Type 0 where
  in_heading : number ≡ 1 → parts text ≡ heading ∷ [] → IsFirstBadLine text number
  after : (lines : List Line) (part : List ℕ) (others : List (List ℕ)) →
      GoodStart text lines (part ∷ others) → IsBadLine part others → number ≡ length lines + 2 → IsFirstBadLine text number

-- after good lines stands a proper one, with its line feed, of which something is wrong
pub record Misfits (text : List ℕ) (number : ℕ) (Wrong : List Line → Line → Type 0) : Type 0 where
  pub lines : List Line
  pub line : Line
  pub next : List ℕ
  pub others : List (List ℕ)
  pub start : GoodStart text lines (line_text line ∷ next ∷ others)
  pub proper : IsProper line
  pub wrong : Wrong lines line
  pub counted : number ≡ length lines + 2

-- the fault of a line that takes what is taken, by its kind
abbrev pub taken_fault : Line → ℕ → BoardFault
taken_fault (Memory kind range) number = RangesOverlap number
taken_fault (Interrupt address) number = AddressTwice number
taken_fault (Reads (Cell address) answers) number = AddressTwice number
taken_fault (Reads (Port port) answers) number = PortTwice number

-- a line takes what one before it takes, and its fault is this one
pub record IsTaken (fault : BoardFault) (number : ℕ) (before : List Line) (line : Line) : Type 0 where
  pub taken : ¬ (IsFree before line)
  pub named : taken_fault line number ≡ fault

-- a line takes nothing of the others, and reads or goes by a cell that is no device's
pub record IsOutside (before : List Line) (line : Line) : Type 0 where
  pub free : IsFree before line
  pub outside : is_inside before line ≡ false

-- what holds of the text if it is refused; `Memory` says nothing of the text
abbrev pub Refuses : List ℕ → BoardFault → Type 0
Refuses text BadVersion = (others : List (List ℕ)) → ¬ (parts text ≡ heading ∷ others)
Refuses text (BadLine number) = IsFirstBadLine text number
Refuses text (RangesOverlap number) = Misfits text number (IsTaken (RangesOverlap number) number)
Refuses text (PortTwice number) = Misfits text number (IsTaken (PortTwice number) number)
Refuses text (AddressTwice number) = Misfits text number (IsTaken (AddressTwice number) number)
Refuses text (OutsideDevice number) = Misfits text number IsOutside
Refuses text NoMemory = Unit {0}
