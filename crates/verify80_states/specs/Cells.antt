-- What is known of bytes of memory, each at an address of its own, and what becomes of that when a byte is stored. (This project's own.)
use Rattle.std.specs.Prelude.{◌≡◌, ◌⊎◌, ◌==◌, ◌&&◌, ℕ, Bool, true, List, All, Option, None, Some, length, map, replicate, slice_get, nat_le, if◌then◌else◌}
use Rattle.std.specs.List.{find}
use Rattle.machine80.specs.Effects.{byte_in}
use Rattle.verify80_spans.specs.declared.byte_span.ByteSpan.{ByteSpan}
use Rattle.verify80_states.specs.{declared.states.cells.Cell.Cell, declared.states.cells.Cells.Cells}
use Rattle.verify80_states.specs.{declared.states.memory_after.StoredByte.StoredByte, declared.states.variables.Variable.Variable, Variables.IsSaid}
use Rattle.verify80_spans.specs.Span.{ByteWithin, IsByteInside, any_byte, is_alone, meet_bytes}

-- the byte at a cell's address is one of its bytes
abbrev pub HoldsCell : Cell → (memory : List ℕ) → Type 0
HoldsCell c memory = ByteWithin c.bytes (byte_in memory c.at)

abbrev pub HoldsCells : Cells → (memory : List ℕ) → Type 0
HoldsCells cells memory = All (λ c. HoldsCell c memory) cells.each

-- a cell says nothing that neither another does nor a variable that is named; and so it is of cells, place by place
pub record IsCellInside (variables : List Variable) (set : ℕ) (inner outer : Cell) : Type 0 where
  pub either : ((outer.bytes ≡ any_byte) ⊎ ((inner.at ≡ outer.at) × IsByteInside inner.bytes outer.bytes)) ⊎ IsSaid variables set outer

pub record AreCellsInside (variables : List Variable) (set : ℕ) (inner outer : Cells) : Type 0 where
  pub long : length inner.each ≡ length outer.each
  pub at : (k : ℕ) (c d : Cell) → slice_get inner.each k ≡ Some c → slice_get outer.each k ≡ Some d → IsCellInside variables set c d

-- something is known only of addresses that are quiet
pub record IsQuietCell (quiet : ℕ → Bool) (c : Cell) : Type 0 where
  pub either : (c.bytes ≡ any_byte) ⊎ (quiet c.at ≡ true)

abbrev pub AreQuietCells : (quiet : ℕ → Bool) → Cells → Type 0
AreQuietCells quiet cells = All (IsQuietCell quiet) cells.each

-- nothing is known
abbrev pub any_cell : Cell
any_cell = record { at = 0; bytes = any_byte }

abbrev pub no_cells : Cells
no_cells = record { each = replicate 8 any_cell }

-- what is known of the byte at an address: that of the first cell there
abbrev pub bytes_of : Option Cell → ByteSpan
bytes_of None = any_byte
bytes_of (Some c) = c.bytes

abbrev pub bytes_at : Cells → (at : ℕ) → ByteSpan
bytes_at cells at = bytes_of (find (λ c. c.at == at) cells.each)

-- a cell at an address is known to have one of these bytes too, if an address is named
abbrev pub cut_cell : (at : ℕ) → ByteSpan → Cell → Cell
cut_cell at bytes c = if c.at == at then record { at = c.at; bytes = meet_bytes c.bytes bytes } else c

abbrev pub cut_cells : Option ℕ → ByteSpan → Cells → Cells
cut_cells None bytes cells = cells
cut_cells (Some at) bytes cells = record { each = map (cut_cell at bytes) cells.each }

-- a byte is stored, if one is: a cell at the only address where it may be has its bytes; one that is among several such addresses, any
abbrev pub stored_cell : StoredByte → Cell → Cell
stored_cell b c = if nat_le b.at.first c.at && nat_le c.at b.at.last then record { at = c.at; bytes = if is_alone b.at then b.bytes else any_byte } else c

abbrev pub cells_after : Option StoredByte → Cells → Cells
cells_after None cells = cells
cells_after (Some b) cells = record { each = map (stored_cell b) cells.each }
