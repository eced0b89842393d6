-- Bytes of a memory at marked addresses. (This project's own.)
use Rattle.std.specs.Prelude.{◌≡◌, ℕ, ◌+◌, ◌<◌, ◌≤◌, ◌==◌, Bool, List, [], ◌∷◌, length, slice_index, if◌then◌else◌}
use Rattle.std.specs.List.{flat_map, range_with_len}
use Rattle.image80_source.specs.declared.line.Line.{Line}
use Rattle.image80_source.specs.Lines.{bytes_of}

-- these bytes of the memory are at marked addresses, from one on
pub record AreMarked (marks memory : List ℕ) (at : ℕ) (bytes : List ℕ) : Type 0 where
  pub marked : (k : ℕ) → k < length bytes → slice_index marks (at + k) ≡ 1
  pub same : (k : ℕ) → k < length bytes → slice_index memory (at + k) ≡ slice_index bytes k

-- an address with its byte, if it is marked
abbrev pub marked_at : (marks memory : List ℕ) → ℕ → List (ℕ × ℕ)
marked_at marks memory address = if slice_index marks address == 1 then (address, slice_index memory address) ∷ [] else []

-- those of `left` addresses
unfoldable pub marked_from : (marks memory : List ℕ) → (at left : ℕ) → List (ℕ × ℕ)
marked_from marks memory at left = flat_map (marked_at marks memory) (range_with_len at left)

-- 65536 marks: 1 for each address that passes a test, else 0
pub record AreMarksOf (test : ℕ → Bool) (marks : List ℕ) : Type 0 where
  pub whole : length marks ≡ 65536
  pub marks_are : (address : ℕ) → slice_index marks address ≡ (if test address then 1 else 0)

-- a line stands for no more bytes than memory has
abbrev pub IsShort : Line → Type 0
IsShort line = length (bytes_of line.content) ≤ 65536
