-- The text of a board. It is over whole lines: the first is `BOARD 1`, and each further one is `ROM ffff llll`,
-- `RAM ffff llll` or `DEVICE ffff llll`, the first address and the length of a range, `INTERRUPT aaaa`, or the answers of a
-- port or of a cell, `PORT pp ..` or `AT aaaa ..`. Answers are a list, as ` 1B 5B (41 42)*3 03*`, or a table, as
-- ` BY E0 FE=F7 *=FF`. Addresses and bytes are upper case hexadecimal, counts decimal.
-- (The text is this project's own.)
use Rattle.std.specs.Prelude.{ℕ, ◌==◌, if◌then◌else◌, List, [], ◌∷◌, ◌++◌, map, codes, Option, Some, None}
use Rattle.std.specs.Fmt.{decimal}
use Rattle.std.specs.List.{flat_map}
use Rattle.text80.specs.Digits.{byte_text, word_text}
use Rattle.image80.specs.declared.range.Range.{Range}
use Rattle.image80.specs.Lines.{text_of}
use Rattle.board80.specs.declared.answers.Answers.{Answers}
use Rattle.board80.specs.declared.answers.Answers.TheVariants.{Listed, By}
use Rattle.board80.specs.declared.byte_list.Bytes.{Bytes}
use Rattle.board80.specs.declared.byte_list.Bytes.TheVariants.{One, Group}
use Rattle.board80.specs.declared.byte_list.Item.{Item}
use Rattle.board80.specs.declared.line.Kind.{Kind}
use Rattle.board80.specs.declared.line.Kind.TheVariants.{Rom, Ram, Device}
use Rattle.board80.specs.declared.line.Line.{Line}
use Rattle.board80.specs.declared.line.Line.TheVariants.{Memory, Interrupt, Reads}
use Rattle.board80.specs.declared.place.Place.{Place}
use Rattle.board80.specs.declared.place.Place.TheVariants.{Port, Cell}
use Rattle.board80.specs.declared.table.Row.{Row}
use Rattle.board80.specs.ByteList.{ListedBytes}
use Rattle.board80.specs.Group.{GroupBytes}
use Rattle.board80.specs.Table.{TableRows}

-- the first line
abbrev pub heading : List ℕ
heading = codes "BOARD 1"

-- bytes, each after a space
abbrev pub spaced_text : List ℕ → List ℕ
spaced_text bytes = flat_map (λ byte. 32 ∷ byte_text byte) bytes

-- the bytes of a group with the bracket that closes it
abbrev pub group_text : GroupBytes → List ℕ
group_text group = byte_text group.first ++ (spaced_text group.others ++ 41 ∷ [])

-- a byte, or a group in its brackets
abbrev pub bytes_text : Bytes → List ℕ
bytes_text (One byte) = byte_text byte
bytes_text (Group group) = 40 ∷ group_text group

-- how many times an item comes: nothing for once
abbrev pub times_text : ℕ → List ℕ
times_text times = if times == 1 then [] else 42 ∷ decimal times

abbrev pub item_text : Item → List ℕ
item_text item = bytes_text item.bytes ++ times_text item.times

-- items, each after a space
abbrev pub items_text : List Item → List ℕ
items_text items = flat_map (λ item. 32 ∷ item_text item) items

-- bytes that come for ever, after a space
abbrev pub for_ever_text : Option Bytes → List ℕ
for_ever_text None = []
for_ever_text (Some bytes) = 32 ∷ (bytes_text bytes ++ 42 ∷ [])

abbrev pub list_text : ListedBytes → List ℕ
list_text list = items_text list.items ++ for_ever_text list.for_ever

-- the port or the cell whose last byte decides
abbrev pub source_text : Place → List ℕ
source_text (Port port) = byte_text port
source_text (Cell address) = word_text address

-- a byte, and the answer to it
abbrev pub row_text : Row → List ℕ
row_text row = byte_text row.byte ++ 61 ∷ byte_text row.answer

-- rows, each after a space
abbrev pub rows_text : List Row → List ℕ
rows_text rows = flat_map (λ row. 32 ∷ row_text row) rows

-- the answer to every other byte, after a space
abbrev pub other_text : ℕ → List ℕ
other_text answer = codes " *=" ++ byte_text answer

abbrev pub table_text : TableRows → List ℕ
table_text table = source_text table.source ++ (rows_text table.rows ++ other_text table.other)

abbrev pub answers_text : Answers → List ℕ
answers_text (Listed list) = list_text list
answers_text (By table) = codes " BY " ++ table_text table

-- a range's first address and length
abbrev pub range_text : Range → List ℕ
range_text range = word_text range.first ++ 32 ∷ word_text range.length

-- the word of a kind of memory, with a space
abbrev pub kind_text : Kind → List ℕ
kind_text Rom = codes "ROM "
kind_text Ram = codes "RAM "
kind_text Device = codes "DEVICE "

-- the word of a port or of a cell that is read, with its number
abbrev pub place_text : Place → List ℕ
place_text (Port port) = codes "PORT " ++ byte_text port
place_text (Cell address) = codes "AT " ++ word_text address

-- a line after the first
abbrev pub line_text : Line → List ℕ
line_text (Memory kind range) = kind_text kind ++ range_text range
line_text (Interrupt address) = codes "INTERRUPT " ++ word_text address
line_text (Reads place answers) = place_text place ++ answers_text answers

-- the whole text
abbrev pub board_text : List Line → List ℕ
board_text lines = text_of (heading ∷ map line_text lines)
