-- What the lines of an assembler source stand for: bytes at addresses, those of an image's contents.
-- (Intel 8080 Assembly Language Programming Manual, chapters 2 and 4: instructions, DB and DW.)
use Rattle.std.specs.Prelude.{◌≡◌, ℕ, ◌+◌, ◌/◌, ◌%◌, Bool, List, [], ◌∷◌, Option, None, slice_index_or, if◌then◌else◌}
use Rattle.std.specs.List.{flat_map, list_any, range_with_len}
use Rattle.decode80.specs.declared.fetching.Fetched.{Fetched}
use Rattle.decode80.specs.Spelling.{spelling}
use Rattle.image80.specs.Image.{PlacedBytes, byte_at, covers}
use Rattle.image80_source.specs.declared.line.Content.{Content}
use Rattle.image80_source.specs.declared.line.Content.TheVariants.{Instruction, Bytes, Quoted, Word}
use Rattle.image80_source.specs.declared.line.Line.{Line}

-- the bytes that a line stands for
abbrev pub bytes_of : Content → List ℕ
bytes_of (Instruction i) = spelling i
bytes_of (Bytes bytes) = bytes.now
bytes_of (Quoted bytes) = bytes.now
bytes_of (Word word) = word % 256 ∷ word / 256 ∷ []

-- bytes with their addresses, from one on
abbrev pub placed : ℕ → List ℕ → List (ℕ × ℕ)
placed at [] = []
placed at (byte ∷ bytes) = (at, byte) ∷ placed (at + 1) bytes

-- the bytes of a line with their addresses
abbrev pub line_bytes : Line → List (ℕ × ℕ)
line_bytes line = placed line.at (bytes_of line.content)

-- whether the contents have a byte at an address
abbrev pub is_covered : List PlacedBytes → ℕ → Bool
is_covered chunks address = list_any (λ chunk. covers chunk address) chunks

-- an address with its byte, if the contents have one there
abbrev pub content_at : List PlacedBytes → ℕ → List (ℕ × ℕ)
content_at chunks address = if is_covered chunks address then (address, byte_at chunks address) ∷ [] else []

-- each address of the contents with its byte, in order
unfoldable pub contents_of : List PlacedBytes → List (ℕ × ℕ)
contents_of chunks = flat_map (content_at chunks) (range_with_len 0 65536)

-- the content is no instruction
abbrev pub IsData : Content → Type 0
IsData (Instruction i) = ⊥
IsData _ = Unit {0}

-- a line of an instruction is at an address at which a table has one
abbrev pub HasInstruction : List (Option Fetched) → ℕ → Content → Type 0
HasInstruction table at (Instruction i) = slice_index_or table at None ≡ None → ⊥
HasInstruction table at _ = Unit {0}

abbrev pub IsFound : List (Option Fetched) → Line → Type 0
IsFound table line = HasInstruction table line.at line.content
