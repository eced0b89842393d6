-- The text of a source. Its columns are eight wide: a label, and what is behind it. A label is defined where it begins a line, or by
-- EQU; ORG is printed wherever a line doesn't follow the line before. (Intel 8080 Assembly Language Programming Manual, chapters 2
-- and 4: label, code, operand and comment fields; hexadecimal data begin with a digit and end with H; ORG, EQU, DB, DW and END.)
use Rattle.std.specs.Prelude.{ℕ, ◌+◌, ◌-◌, ◌==◌, Bool, nat_le, List, [], ◌∷◌, ◌++◌, Option, None, Some, codes, drop, take, length, slice_index, if◌then◌else◌}
use Rattle.std.specs.List.{flat_map, list_any, range_with_len}
use Rattle.std.specs.Option.{option_map_or}
use Rattle.text80.specs.Digits.{byte_text, word_text}
use Rattle.decode80.specs.declared.instr.Instr.{Instr}
use Rattle.decode80.specs.declared.instr.Instr.TheVariants.{Mvi, MviMemory, Lxi, Operate, Jmp, JumpIf, Call, CallIf, Shld, Lhld, Sta, Lda, In, Out}
use Rattle.decode80.specs.declared.operation.Operand.TheVariants.{Immediate}
use Rattle.decode80.specs.Text.{text}
use Rattle.image80_source.specs.declared.line.Content.{Content}
use Rattle.image80_source.specs.declared.line.Content.TheVariants.{Instruction, Bytes, Quoted, Word}
use Rattle.image80_source.specs.declared.line.Line.{Line}
use Rattle.image80_source.specs.declared.operands.Datum.{Datum}
use Rattle.image80_source.specs.declared.operands.Datum.TheVariants.{NoDatum, OneByte, OnePort, OneWord}
use Rattle.image80_source.specs.Labels.{LabelTables, is_named_port, label_at, other_public, port_name}
use Rattle.image80_source.specs.Lines.{bytes_of}

-- ---- operands

-- a hexadecimal number: a 0 before digits that begin with a letter, and H behind them
abbrev pub number_text : List ℕ → List ℕ
number_text digits = (if nat_le 65 (slice_index digits 0) then codes "0" else []) ++ (digits ++ codes "H")

-- a word: the label of its address, or a number
abbrev pub word_operand : LabelTables → ℕ → List ℕ
word_operand labels word = option_map_or (λ name. name) (label_at labels word) (number_text (word_text word))

-- a port: its name, or a number
abbrev pub port_operand : LabelTables → ℕ → List ℕ
port_operand labels port = if is_named_port labels port then port_name (byte_text port) else number_text (byte_text port)

-- the datum that ends an instruction's text
abbrev pub datum_of : Instr → Datum
datum_of (Mvi d b) = OneByte b
datum_of (MviMemory b) = OneByte b
datum_of (Operate o (Immediate b)) = OneByte b
datum_of (In p) = OnePort p
datum_of (Out p) = OnePort p
datum_of (Lxi r w) = OneWord w
datum_of (Jmp w) = OneWord w
datum_of (JumpIf c w) = OneWord w
datum_of (Call w) = OneWord w
datum_of (CallIf c w) = OneWord w
datum_of (Shld w) = OneWord w
datum_of (Lhld w) = OneWord w
datum_of (Sta w) = OneWord w
datum_of (Lda w) = OneWord w
datum_of i = NoDatum

-- a text without its last digits
abbrev pub without_last : ℕ → List ℕ → List ℕ
without_last count shown = take (length shown - count) shown

-- a text that ends with the digits of a datum, with the datum as an assembler takes it
abbrev pub with_datum : LabelTables → List ℕ → Datum → List ℕ
with_datum labels shown NoDatum = shown
with_datum labels shown (OneByte b) = without_last 2 shown ++ number_text (byte_text b)
with_datum labels shown (OnePort p) = without_last 2 shown ++ port_operand labels p
with_datum labels shown (OneWord w) = without_last 4 shown ++ word_operand labels w

abbrev pub instruction_text : LabelTables → Instr → List ℕ
instruction_text labels i = with_datum labels (text i) (datum_of i)

-- ---- lines

abbrev pub byte_number : ℕ → List ℕ
byte_number b = number_text (byte_text b)

-- numbers with commas between them
abbrev pub numbers_text : List ℕ → List ℕ
numbers_text [] = []
numbers_text (b ∷ bytes) = byte_number b ++ flat_map (λ b. codes "," ++ byte_number b) bytes

abbrev pub content_text : LabelTables → Content → List ℕ
content_text labels (Instruction i) = instruction_text labels i
content_text labels (Bytes bytes) = codes "DB " ++ numbers_text bytes.now
content_text labels (Quoted bytes) = codes "DB '" ++ (bytes.now ++ codes "'")
content_text labels (Word word) = codes "DW " ++ word_operand labels word

-- the label of a line and a colon, filled to eight places
abbrev pub label_field : Option (List ℕ) → List ℕ
label_field None = codes "        "
label_field (Some name) = name ++ (codes ":" ++ drop (length name + 1) (codes "        "))

-- the name of an address that is no label, as a comment, and the end of the line
abbrev pub line_end : LabelTables → ℕ → List ℕ
line_end labels address = option_map_or (λ p. codes " ;" ++ p.name) (other_public labels address) [] ++ 10 ∷ []

abbrev pub line_text : LabelTables → Line → List ℕ
line_text labels line = label_field (label_at labels line.at) ++ (content_text labels line.content ++ line_end labels line.at)

abbrev pub origin_text : ℕ → List ℕ
origin_text address = codes "        " ++ (codes "ORG " ++ (number_text (word_text address) ++ 10 ∷ []))

-- an ORG for a line, unless it begins where the one before it ends
abbrev pub origin_if : (address behind : ℕ) → List ℕ
origin_if address behind = if address == behind then [] else origin_text address

-- the lines behind an address
unfoldable pub lines_text : LabelTables → (behind : ℕ) → List Line → List ℕ
lines_text labels behind [] = []
lines_text labels behind (line ∷ lines) =
    origin_if line.at behind ++ (line_text labels line ++ lines_text labels (line.at + length (bytes_of line.content)) lines)

-- ---- names

-- whether a line begins at an address
abbrev pub begins : List Line → ℕ → Bool
begins lines address = list_any (λ line. line.at == address) lines

-- a name, filled to eight places, and its value
abbrev pub equate_text : (name digits : List ℕ) → List ℕ
equate_text name digits = name ++ (drop (length name) (codes "        ") ++ (codes "EQU " ++ number_text digits))

-- the line that defines an address's label, if no line begins there
abbrev pub label_equate : LabelTables → (is_begun : Bool) → ℕ → List ℕ
label_equate labels is_begun address =
    if is_begun then [] else option_map_or (λ name. equate_text name (word_text address) ++ line_end labels address) (label_at labels address) []

-- the line that defines a port's name, if it has one
abbrev pub port_equate : LabelTables → ℕ → List ℕ
port_equate labels port =
    if is_named_port labels port then equate_text (port_name (byte_text port)) (byte_text port) ++ 10 ∷ [] else []

unfoldable pub port_equates : LabelTables → List ℕ
port_equates labels = flat_map (port_equate labels) (range_with_len 0 256)

unfoldable pub label_equates : LabelTables → List Line → List ℕ
label_equates labels lines = flat_map (λ address. label_equate labels (begins lines address) address) (range_with_len 0 65536)

-- the last line, with the address at which the program starts
abbrev pub end_text : LabelTables → ℕ → List ℕ
end_text labels start = codes "        " ++ (codes "END " ++ (word_operand labels start ++ 10 ∷ []))

-- the source
abbrev pub source_text : LabelTables → List Line → (start : ℕ) → List ℕ
source_text labels lines start =
    port_equates labels ++ (label_equates labels lines ++ (lines_text labels 0 lines ++ end_text labels start))
