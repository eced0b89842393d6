-- What a file seems to be, by how it begins, and of which files it is said.
-- (8080 Object Module Formats: the types of a module's and a library's header; Intel's hexadecimal object file format: a colon
-- before each record; Motorola's: an S; ELF: its first four bytes. Texts of regions, inputs and boards are this project's.)
use Rattle.std.specs.Prelude.{ℕ, ◌==◌, nat_le, nat_lt, Bool, true, false, ◌&&◌, ◌||◌, not, if◌then◌else◌, List, ◌∷◌, length, take, drop, codes, slice_index}
use Rattle.std.specs.{List.list_all, List.list_any, List.starts_with, Char.is_ascii_hexdigit}
use Rattle.plm80_files.specs.declared.file_kinds.{FileKind.FileKind, FileRole.FileRole}
use Rattle.plm80_files.specs.declared.file_kinds.FileKind.TheVariants as kind
use Rattle.plm80_files.specs.declared.file_kinds.FileRole.TheVariants as role

-- a given number of hexadecimal digits come first
abbrev pub begins_with_digits : (count : ℕ) → List ℕ → Bool
begins_with_digits count bytes = nat_le count (length bytes) && list_all is_ascii_hexdigit (take count bytes)

-- a record of Intel's hexadecimal format: a colon, and the digits of its length, address and type
abbrev pub is_intel_hex_start : List ℕ → Bool
is_intel_hex_start bytes = not (length bytes == 0) && slice_index bytes 0 == 58 && begins_with_digits 8 (drop 1 bytes)

-- a record of Motorola's hexadecimal format: an S, and the digits of its type, length, address and sum
abbrev pub is_s_records_start : List ℕ → Bool
is_s_records_start bytes = not (length bytes == 0) && slice_index bytes 0 == 83 && begins_with_digits 9 (drop 1 bytes)

-- a byte that a text may have: a printable one, a tab, a line feed, a form feed, a carriage return, or a Ctrl-Z
abbrev pub is_of_text : ℕ → Bool
is_of_text byte = (nat_lt 0x1F byte && nat_lt byte 0x7F) || byte == 9 || byte == 10 || byte == 12 || byte == 13 || byte == 0x1A

-- at least eight bytes, with a line feed, and no other byte
abbrev pub is_text : List ℕ → Bool
is_text bytes = nat_le 8 (length bytes) && list_any (λ byte. byte == 10) bytes && list_all is_of_text bytes

-- a line of inputs: a port, a blank and a byte
abbrev pub is_inputs_start : List ℕ → Bool
is_inputs_start bytes =
    nat_le 3 (length bytes) && begins_with_digits 2 bytes && slice_index bytes 2 == 32 && begins_with_digits 2 (drop 3 bytes)

abbrev pub starts : (beginning bytes : List ℕ) → Bool
starts beginning bytes = starts_with (λ one other. one == other) bytes beginning

-- a file that begins with none of the bytes below: a text, or a file of another machine
abbrev pub kind_of_text : List ℕ → FileKind
kind_of_text bytes =
    if starts (127 ∷ codes "ELF") bytes then kind.Elf
    else if is_intel_hex_start bytes then kind.IntelHex
    else if is_s_records_start bytes then kind.SRecords
    else if starts (codes "REGIONS") bytes then kind.Regions
    else if starts (codes "BOARD") bytes then kind.Board
    else if is_inputs_start bytes then kind.Inputs
    else if is_text bytes then kind.Text
    else kind.Unknown

-- the first byte is that of a module's header or that of a library's
abbrev pub kind_of : List ℕ → FileKind
kind_of bytes =
    if length bytes == 0 then kind.Empty
    else if slice_index bytes 0 == 0x02 then kind.ObjectFile
    else if slice_index bytes 0 == 0x2C then kind.Library
    else kind_of_text bytes

-- of which kinds it is said what the file seems to be: not of a file that may have the role, nor of one of which nothing is known
abbrev pub is_explained : FileRole → FileKind → Bool
is_explained role.ObjectFile kind.ObjectFile = false
is_explained role.ObjectFile other = true
is_explained role.Image kind.ObjectFile = false
is_explained role.Image other = true
is_explained role.Regions kind.Regions = false
is_explained role.Regions kind.Text = false
is_explained role.Regions kind.Unknown = false
is_explained role.Regions other = true
is_explained role.Inputs kind.Regions = true
is_explained role.Inputs kind.ObjectFile = true
is_explained role.Inputs kind.Board = true
is_explained role.Inputs other = false
is_explained role.Board kind.Board = false
is_explained role.Board kind.Text = false
is_explained role.Board kind.Unknown = false
is_explained role.Board other = true

-- of which kinds it is said which path the role has: files that commands with that path read beside it. Of regions it is said after
-- their other words.
abbrev pub is_misplaced : FileRole → FileKind → Bool
is_misplaced role.ObjectFile other = false
is_misplaced role.Image kind.Regions = true
is_misplaced role.Image kind.Inputs = true
is_misplaced role.Image kind.Board = true
is_misplaced role.Image kind.Text = true
is_misplaced role.Image kind.Unknown = true
is_misplaced role.Image other = false
is_misplaced role.Regions other = false
is_misplaced role.Inputs kind.ObjectFile = true
is_misplaced role.Inputs kind.Regions = true
is_misplaced role.Inputs other = false
is_misplaced role.Board other = false

-- a file that is read by commands which read a text of regions beside it
abbrev pub stands_beside_regions : FileKind → Bool
stands_beside_regions kind.ObjectFile = true
stands_beside_regions kind.Inputs = true
stands_beside_regions other = false
