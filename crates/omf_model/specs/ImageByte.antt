-- The bytes that modules define: a chunk for each content, at its place, with its references applied; and the byte at an
-- address, that of the last chunk over it. No linked module occurs here: it is what LINK and LOCATE together give.
-- (ISIS-II User's Guide: LINK, LOCATE and the loading of object files.)
use Rattle.std.specs.Prelude.{ℕ, ◌+◌, ◌-◌, ◌%◌, ◌&&◌, nat_lt, Bool, Option, None, unwrap_or, List, [], filter, find, map, length, slice_get, slice_index}
use Rattle.std.specs.List.{last_or, flat_map, enumerate_from}
use Rattle.std.specs.Option.{option_map_or}
use Rattle.omf_core.specs.Name.{same_name}
use Rattle.omf_model.specs.declared.fixup.Fixup.{Fixup}
use Rattle.omf_model.specs.declared.fixup.Target.{Target}
use Rattle.omf_model.specs.declared.fixup.Target.TheVariants as target
use Rattle.omf_model.specs.declared.symbols.Public.{Public}
use Rattle.omf_model.specs.Contents.{ContentValue}
use Rattle.omf_model.specs.Modules.{ModuleValue}
use Rattle.omf_model.specs.Place.{Bases, word_of, place_in}
use Rattle.omf_model.specs.declared.patching.Patch.{Patch}
use Rattle.omf_model.specs.Patches.{with_patches}

-- a public and the word that its place is
pub record PlacedName : Type 0 where
  pub name : List ℕ
  pub word : ℕ

abbrev pub placed_public : Bases → List ModuleValue → ℕ × ModuleValue → Public → PlacedName
placed_public bases modules m p = record { name = p.name; word = place_in bases modules m.0 m.1 p.segment p.offset }

-- all publics, by module and then by record
abbrev pub placed_publics : Bases → List ModuleValue → List PlacedName
placed_publics bases modules = flat_map (λ m. map (placed_public bases modules m) m.1.publics) (enumerate_from 0 modules)

-- what a name stands for: the place of the public that bears it, or else the word that is given for it
abbrev pub name_word : Bases → List PlacedName → List ℕ → ℕ
name_word bases publics name =
    option_map_or (λ p. p.word) (find (λ p. same_name p.name name) publics) (word_of bases.words name)

-- the name of an external
abbrev pub name_at : List (List ℕ) → ℕ → List ℕ
name_at names index = unwrap_or (slice_get names index) []

-- what a reference is to: where a segment begins, or what an external stands for
abbrev pub word_to : (segment external : ℕ → ℕ) → Target → ℕ
word_to segment external (target.Segment id) = segment id
word_to segment external (target.External index) = external index

-- a fixup of a content that begins at offset `first`, if each target has a word
abbrev pub patch_with : (Target → ℕ) → (first : ℕ) → Fixup → Patch
patch_with word first f = record { at = f.offset - first; field = f.field; word = word f.target }

-- in a module
abbrev pub target_word : Bases → List ModuleValue → ℕ × ModuleValue → Target → ℕ
target_word bases modules m = word_to
    (λ id. place_in bases modules m.0 m.1 id 0)
    (λ index. name_word bases (placed_publics bases modules) (name_at m.1.externals index))

abbrev pub patch_of : Bases → List ModuleValue → ℕ × ModuleValue → ContentValue → Fixup → Patch
patch_of bases modules m c = patch_with (target_word bases modules m) c.offset

-- bytes at a place
pub record ByteChunk : Type 0 where
  pub place : ℕ
  pub bytes : List ℕ

-- a content at its place, with its fixups applied
abbrev pub chunk_at : (place : ℕ) → (Target → ℕ) → ContentValue → ByteChunk
chunk_at place word c = record { place = place; bytes = with_patches (map (patch_with word c.offset) c.fixups) c.bytes }

abbrev pub chunk_of : Bases → List ModuleValue → ℕ × ModuleValue → ContentValue → ByteChunk
chunk_of bases modules m c = chunk_at (place_in bases modules m.0 m.1 c.segment c.offset) (target_word bases modules m) c

-- the chunks of all contents, by module and then by record
abbrev pub chunks_of : Bases → List ModuleValue → List ByteChunk
chunks_of bases modules = flat_map (λ m. map (chunk_of bases modules m) m.1.contents) (enumerate_from 0 modules)

-- how far an address lies after a place, past the end of memory at its start again
abbrev pub distance : (place address : ℕ) → ℕ
distance place address = (address + 65536 - place % 65536) % 65536

-- one of the chunk's bytes stands at the address
abbrev pub chunk_covers : ℕ → ByteChunk → Bool
chunk_covers address c = nat_lt address 65536 && nat_lt (distance c.place address) (length c.bytes)

-- the last of the chunks that cover the address
abbrev pub last_over : List ByteChunk → ℕ → Option ByteChunk
last_over chunks address = last_or None (filter (chunk_covers address) chunks)

-- the byte of a chunk at an address that it covers
abbrev pub byte_of : ℕ → ByteChunk → ℕ
byte_of address c = slice_index c.bytes (distance c.place address)

-- the byte at an address: that of the last chunk that covers it, and 0 if none does
abbrev pub image_byte : Bases → List ModuleValue → ℕ → ℕ
image_byte bases modules address = option_map_or (byte_of address) (last_over (chunks_of bases modules) address) 0
