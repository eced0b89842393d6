-- References in a content's bytes: words that are added to them.
-- (8080 Object Module Formats: relocation, intersegment and external references add to a low byte, a high byte or a word.)
use Rattle.std.specs.Prelude.{ℕ, ◌+◌, ◌*◌, ◌/◌, ◌%◌, ◌==◌, Bool, true, not, ◌&&◌, nat_lt, if◌then◌else◌, List, [], ◌∷◌, find, map, length, slice_index}
use Rattle.std.specs.List.{list_all, list_any, range_with_len}
use Rattle.std.specs.Option.{option_map_or}
use Rattle.omf_body.specs.declared.field.Field.{Field}
use Rattle.omf_body.specs.declared.field.Field.TheVariants.{Low, High, Both}
use Rattle.omf_model.specs.declared.patching.Patch.{Patch}
use Rattle.omf_model.specs.Contents.{offsets_by}

-- the patch has a byte at this place
abbrev pub patches_at : ℕ → Patch → Bool
patches_at i p = list_any (λ o. o == i) (offsets_by p.field p.at)

-- a word in the bytes, low byte first
abbrev pub word_in_bytes : List ℕ → ℕ → ℕ
word_in_bytes bytes i = slice_index bytes i + 256 * slice_index bytes (i + 1)

-- the byte at a place of the patch: low adds the word's low byte to a byte, high its high byte, and both the word to a word,
-- with the carry between its bytes
abbrev pub patched : Field → List ℕ → (at word i : ℕ) → ℕ
patched Low bytes at word i = (slice_index bytes i + word % 256) % 256
patched High bytes at word i = (slice_index bytes i + word / 256 % 256) % 256
patched Both bytes at word i =
    if i == at then (word_in_bytes bytes at + word) % 65536 % 256 else (word_in_bytes bytes at + word) % 65536 / 256 % 256

-- the byte at a place: by the patch that has one there, and else as it is
abbrev pub byte_with : List Patch → List ℕ → ℕ → ℕ
byte_with patches bytes i =
    option_map_or (λ p. patched p.field bytes p.at p.word i) (find (patches_at i) patches) (slice_index bytes i)

-- the bytes with all patches
abbrev pub with_patches : List Patch → List ℕ → List ℕ
with_patches patches bytes = map (byte_with patches bytes) (range_with_len 0 (length bytes))

-- the patch lies inside a given number of bytes
abbrev pub is_inside_bytes : ℕ → Patch → Bool
is_inside_bytes size p = list_all (λ o. nat_lt o size) (offsets_by p.field p.at)

abbrev pub are_inside : ℕ → List Patch → Bool
are_inside size patches = list_all (is_inside_bytes size) patches

-- two patches share a byte
abbrev pub meets : Patch → Patch → Bool
meets p q = list_any (λ o. patches_at o p) (offsets_by q.field q.at)

-- no two patches share a byte
abbrev pub are_apart : List Patch → Bool
are_apart [] = true
are_apart (p ∷ ps) = list_all (λ q. not (meets p q)) ps && are_apart ps
