-- The chunks that a module's contents in CODE are, if LOCATE gives it bases.
-- (8080 Object Module Formats: content and fixup records; ISIS-II User's Guide, LOCATE: of two contents over a byte the later
-- one stands.)
use Rattle.std.specs.Prelude.{ℕ, ◌%◌, ◌==◌, Bool, List, [], ◌∷◌, map, filter}
use Rattle.std.specs.List.{list_any}
use Rattle.omf_core.specs.SegmentId.{code_id}
use Rattle.omf_model.specs.Contents.{ContentValue}
use Rattle.omf_model.specs.Modules.{ModuleValue}
use Rattle.omf_model.specs.Place.{Bases}
use Rattle.omf_model.specs.ImageByte.{ByteChunk, chunk_of, chunk_covers, byte_of}

-- the content is in CODE
abbrev pub is_code : ContentValue → Bool
is_code c = c.segment == code_id

-- the chunks of the module's contents in CODE alone, if the module has these bases
abbrev pub code_chunks : Bases → ModuleValue → List ByteChunk
code_chunks bases m = map (chunk_of bases (m ∷ []) (0, m)) (filter is_code m.contents)

-- one of the chunks covers the address
abbrev pub is_covered : List ByteChunk → ℕ → Bool
is_covered chunks address = list_any (chunk_covers address) chunks

-- a byte of a chunk; that of a definition is any number, and those of files are below 256
abbrev pub chunk_byte : ByteChunk → ℕ → ℕ
chunk_byte c address = byte_of address c % 256
