-- What a file seems to be that was to be a dump: a text, or an object file, in place of the bytes that it stands for.
-- (Intel's hexadecimal object file format: each line is a colon and digits. Motorola's S-records: S, a type and digits. xxd: a place
-- in eight digits, a colon, a blank and digits; with -p digits alone. 8080 Object Module Formats: first comes a module's header.)
use Rattle.std.specs.Prelude.{ℕ, ◌-◌, ◌%◌, ◌==◌, nat_le, Bool, false, ◌&&◌, ◌||◌, not, if◌then◌else◌, Option, None, Some, is_none, List, [], ◌∷◌, length, take, drop, slice_index}
use Rattle.std.specs.List.{list_all, list_any, ends_with, slice_split}
use Rattle.std.specs.Char.{is_ascii_digit, is_ascii_hexdigit}
use Rattle.omf_core.specs.Record.{fault_at, head_kind}
use Rattle.rom80.specs.declared.seeming.DumpKind.{DumpKind}
use Rattle.rom80.specs.declared.seeming.DumpKind.TheVariants.{IntelHex, SRecords, HexDump, PlainHexDump, ObjectFile}

-- hexadecimal digits, an even number of them, at least `least`
abbrev pub are_digit_pairs : (least : ℕ) → List ℕ → Bool
are_digit_pairs least bytes = nat_le least (length bytes) && (length bytes % 2 == 0 && list_all is_ascii_hexdigit bytes)

-- a colon; the digits of a length, an address, a type and a sum, and those of data
abbrev pub is_hex_line : List ℕ → Bool
is_hex_line line = not (length line == 0) && slice_index line 0 == 58 && are_digit_pairs 10 (drop 1 line)

-- S and a type; the digits of a length, an address and a sum, and those of data
abbrev pub is_s_record : List ℕ → Bool
is_s_record line = nat_le 2 (length line) && slice_index line 0 == 83 && is_ascii_digit (slice_index line 1) && are_digit_pairs 8 (drop 2 line)

-- a place in eight digits, a colon and a blank, and then two digits
abbrev pub is_dump_line : List ℕ → Bool
is_dump_line line = nat_le 12 (length line) && are_digit_pairs 8 (take 8 line) && slice_index line 8 == 58 && slice_index line 9 == 32
    && are_digit_pairs 2 (take 2 (drop 10 line))

abbrev pub is_line_of : DumpKind → List ℕ → Bool
is_line_of IntelHex line = is_hex_line line
is_line_of SRecords line = is_s_record line
is_line_of HexDump line = is_dump_line line
is_line_of PlainHexDump line = are_digit_pairs 2 line
is_line_of ObjectFile line = false

-- a line without a carriage return at its end
abbrev pub without_return : List ℕ → List ℕ
without_return part = if ends_with (λ one other. one == other) part (13 ∷ []) then take (length part - 1) part else part

-- what stands between two line feeds, or between one and an end of the text, is a line of the kind
abbrev pub is_part_of : DumpKind → List ℕ → Bool
is_part_of kind part = is_line_of kind (without_return part)

-- the same, or it has nothing but the Ctrl-Z with which CP/M fills a text up
abbrev pub may_be_part_of : DumpKind → List ℕ → Bool
may_be_part_of kind part = is_part_of kind part || list_all (λ byte. byte == 0x1A) part

-- a text of whole lines of a kind, one at least
abbrev pub is_text_of : DumpKind → List ℕ → Bool
is_text_of kind bytes = let parts = slice_split (λ byte. byte == 10) bytes in
    list_all (may_be_part_of kind) parts && list_any (is_part_of kind) parts

-- a whole record comes first, with its sum, which is a module's header
abbrev pub begins_with_header : List ℕ → Bool
begins_with_header bytes = is_none (fault_at bytes 0) && head_kind bytes == 2

-- what a file seems to be; `None` of bytes as they are
abbrev pub dump_kind : List ℕ → Option DumpKind
dump_kind bytes =
    if begins_with_header bytes then Some ObjectFile
    else if is_text_of IntelHex bytes then Some IntelHex
    else if is_text_of SRecords bytes then Some SRecords
    else if is_text_of HexDump bytes then Some HexDump
    else if is_text_of PlainHexDump bytes then Some PlainHexDump
    else None
