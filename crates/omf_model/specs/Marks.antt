-- A mark for each byte of a content record: whether a fixup has that byte.
-- (8080 Object Module Formats, fixup records; that two of them share no byte is this project's rule.)
use Rattle.std.specs.Prelude.{◌≡◌, ℕ, ◌+◌, ◌<◌, Bool, false, List, length, slice_index_or}
use Rattle.omf_model.specs.declared.fixup.Fixup.{Fixup}
use Rattle.omf_model.specs.Contents.{is_taken}

-- the marks of the bytes from offset `first` on say which offsets are taken
pub record AreMarks (marks : List Bool) (first : ℕ) (taken : ℕ → Bool) : Type 0 where
  pub at : (place : ℕ) → place < length marks → slice_index_or marks place false ≡ taken (first + place)

-- the marks are those of a content of `size` bytes with these references
pub record IsMarked (marks : List Bool) (first size : ℕ) (fixups : List Fixup) : Type 0 where
  pub marked : AreMarks marks first (is_taken fixups)
  pub as_many : length marks ≡ size
