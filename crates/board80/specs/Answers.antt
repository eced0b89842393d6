-- What a board answers.
-- (The text of a board is this project's own.)
use Rattle.std.specs.Prelude.{ℕ, zero, suc, ◌==◌, List, [], ◌∷◌, ◌++◌, find, slice_get, Option, Some, None}
use Rattle.std.specs.List.{flat_map}
use Rattle.board80.specs.declared.byte_list.Bytes.{Bytes}
use Rattle.board80.specs.declared.byte_list.Bytes.TheVariants.{One, Group}
use Rattle.board80.specs.declared.byte_list.Item.{Item}
use Rattle.board80.specs.declared.table.Row.{Row}
use Rattle.board80.specs.ByteList.{ListedBytes}
use Rattle.board80.specs.Table.{TableRows}

-- the bytes of an item, once
abbrev pub bytes_of : Bytes → List ℕ
bytes_of (One byte) = byte ∷ []
bytes_of (Group group) = group.first ∷ group.others

-- bytes a given number of times
abbrev pub repeated : ℕ → List ℕ → List ℕ
repeated zero bytes = []
repeated (suc times) bytes = bytes ++ repeated times bytes

-- the bytes of items, one after another
abbrev pub items_bytes : List Item → List ℕ
items_bytes items = flat_map (λ item. repeated item.times (bytes_of item.bytes)) items

-- bytes for ever, a given number of times
abbrev pub for_ever_bytes : ℕ → Option Bytes → List ℕ
for_ever_bytes times None = []
for_ever_bytes times (Some bytes) = repeated times (bytes_of bytes)

-- The byte of a list at an index from 0 on, None past its end: what comes for ever needs to come only once more than that to
-- reach it.
abbrev pub byte_at : ListedBytes → ℕ → Option ℕ
byte_at list index = slice_get (items_bytes list.items ++ for_ever_bytes (suc index) list.for_ever) index

-- the answer of the first row for a byte, or else the other one
abbrev pub answer_of_row : Option Row → ℕ → ℕ
answer_of_row (Some row) other = row.answer
answer_of_row None other = other

abbrev pub answer_to : TableRows → ℕ → ℕ
answer_to table byte = answer_of_row (find (λ row. row.byte == byte) table.rows) table.other

-- the answer after these bytes were put out: that to the last of them, and the other one if there is none
abbrev pub answer_to_last : TableRows → Option ℕ → ℕ
answer_to_last table None = table.other
answer_to_last table (Some byte) = answer_to table byte
