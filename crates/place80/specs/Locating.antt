-- The image of a located program: its chunks, its regions and its start, by the places of its segments.
-- (ISIS-II User's Guide, LOCATE: an absolute module.)
use Rattle.std.specs.Prelude.{ℕ, ◌≡◌, ◌+◌, ◌≤◌, ◌<◌, All, IsTrue, length, ◌%◌, ◌==◌, Bool, ◌||◌, not, Option, None, option_map, List, [], ◌∷◌, filter, find, map}
use Rattle.std.specs.List.{AllByRecursion}
use Rattle.omf_model.specs.Segments.{code_id, stack_id}
use Rattle.omf_model.specs.Modules.{ModuleValue}
use Rattle.omf_model.specs.declared.fixup.Target.{Target}
use Rattle.omf_model.specs.Contents.{ContentValue}
use Rattle.omf_model.specs.Patches.{are_inside, are_apart}
use Rattle.omf_model.specs.ImageByte.{word_to, patch_with, ByteChunk, chunk_at, chunks_of, image_byte}
use Rattle.image80.specs.declared.range.Range.{Range}
use Rattle.place80.specs.declared.options.Options.{Options}
use Rattle.place80.specs.declared.placed_segments.Placed.{Placed}
use Rattle.image80.specs.Image.{PlacedBytes, byte_at}
use Rattle.image80.specs.Regions.{Areas, Arranges}
use Rattle.image80.specs.RegionsText.{filled}
use Rattle.place80.specs.Layout.{placed_in, place_among, program_bases}
use Rattle.place80.specs.PlaceFault.{overlaps, pairs, start_place}

-- a chunk of an image
abbrev pub placed_bytes : ByteChunk → PlacedBytes
placed_bytes c = record { address = c.place; bytes = c.bytes }

-- one chunk for each content, at its place, with its references applied
abbrev pub located_chunks : Options → ModuleValue → List PlacedBytes
located_chunks options m = map placed_bytes (chunks_of (program_bases options m) (m ∷ []))

-- The same by the placed segments of the one module, which has no external: the word that a fixup adds, and
-- the chunk of a content.
abbrev pub word_among : List Placed → Target → ℕ
word_among segments = word_to (λ id. place_among segments id 0) (λ index. 0)

abbrev pub chunk_among : List Placed → ContentValue → PlacedBytes
chunk_among segments c = placed_bytes (chunk_at (place_among segments c.segment c.offset) (word_among segments) c)

-- these chunks have at every address the byte that the one module defines under its own places
abbrev pub HoldsProgram : Options → ModuleValue → List PlacedBytes → Type 0
HoldsProgram options m chunks = (address : ℕ) → byte_at chunks address ≡ image_byte (program_bases options m) (m ∷ []) address

-- the place where the program starts
abbrev pub program_start : Options → ModuleValue → Option ℕ
program_start options m = option_map (start_place (program_bases options m) m) m.start

-- a content that fits its place: its references begin in it, lie inside it and share no byte, and its chunk is one
pub record CanBePlaced (segments : List Placed) (c : ContentValue) : Type 0 where
  pub begin : AllByRecursion (λ f. c.offset ≤ f.offset) c.fixups
  pub inside : IsTrue (are_inside (length c.bytes) (map (patch_with (word_among segments) c.offset) c.fixups))
  pub apart : IsTrue (are_apart (map (patch_with (word_among segments) c.offset) c.fixups))
  pub in_record : length c.bytes ≤ 65531
  pub in_memory : place_among segments c.segment c.offset + length c.bytes ≤ 65536

-- segments whose ranges are regions: each ends with memory or before, its length is a word, and no two share an address
pub record Fit (segments : List Placed) : Type 0 where
  pub ends : All (λ p. p.base + p.length ≤ 65536) segments
  pub words : AllByRecursion (λ p. p.length < 65536) segments
  pub apart : find (λ pq. overlaps pq.0 pq.1) (pairs segments) ≡ None

-- the range of a placed segment; an empty one at the end of memory begins at 0
abbrev pub range_at : Placed → Range
range_at p = record { first = p.base % 65536; length = p.length }

-- code is CODE, data are DATA, MEMORY and all commons, and the stack is STACK, which may be empty
abbrev pub located_code : List Placed → List Range
located_code segments = filled (map range_at (filter (λ p. p.id == code_id) segments))

abbrev pub located_stack : List Placed → Range
located_stack segments = range_at (placed_in segments stack_id)

abbrev pub is_data : ℕ → Bool
is_data id = not (id == code_id || id == stack_id)

abbrev pub located_data : List Placed → List Range
located_data segments = filled (map range_at (filter (λ p. is_data p.id) segments))

-- regions of these segments, each kind put by address
abbrev pub ArrangesSegments : List Placed → Areas → Type 0
ArrangesSegments segments areas = Arranges (located_code segments) (located_stack segments) (located_data segments) areas
