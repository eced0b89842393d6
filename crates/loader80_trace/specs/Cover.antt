-- The code of an image, line by line: the instructions at the addresses that walks reach, and the other bytes as data. (Texts:
-- 8080 Assembly Language Programming Manual; the columns are this project's.)
use Rattle.std.specs.Prelude.{◌≡◌, ℕ, zero, suc, ◌+◌, ◌-◌, ◌%◌, ◌==◌, ◌&&◌, ◌||◌, Bool, true, false, not, nat_le, nat_lt, is_some}
use Rattle.std.specs.Prelude.{List, [], ◌∷◌, ◌++◌, Option, None, Some, length, slice_index, slice_index_or, codes, if◌then◌else◌}
use Rattle.std.specs.Fmt.{decimal}
use Rattle.std.specs.List.{flat_map, range_with_len}
use Rattle.decode80.specs.declared.fetching.Fetched.{Fetched}
use Rattle.decode80.specs.declared.instr.Instr.{Instr}
use Rattle.decode80.specs.Spelling.{spelling}
use Rattle.text80.specs.Digits.{byte_text, word_text}
use Rattle.decode80.specs.Text.{text}
use Rattle.image80.specs.Regions.{Areas, in_code}
use Rattle.image80.specs.Image.{Located, memory_of}
use Rattle.image80_text.specs.Listing.{columns}
use Rattle.loader80_trace.specs.Lines.{filled}
use Rattle.verify80.specs.Reached.{AreReached, found_at}
use Rattle.verify80.specs.Looking.{code_of}

-- how many bytes the instruction at an address has; 0 if a table has none there
abbrev pub size_of : Option Fetched → ℕ
size_of None = 0
size_of (Some found) = length (spelling found.instr)

-- whether an address is in an instruction of a table: one that begins there, or one or two addresses before it
unfoldable pub is_covered : List (Option Fetched) → ℕ → Bool
is_covered table at = is_some (found_at table at) || (nat_le 1 at && nat_le 2 (size_of (found_at table (at - 1))))
    || (nat_le 2 at && nat_le 3 (size_of (found_at table (at - 2))))

-- whether an address has a byte of code that is in no instruction of a table
unfoldable pub is_data : Areas → List (Option Fetched) → ℕ → Bool
is_data regions table at = nat_lt at 65536 && (in_code regions at && not (is_covered table at))

-- how many such bytes stand right before an address, without a gap
abbrev pub data_before : (ℕ → Bool) → ℕ → ℕ
data_before data_here zero = 0
data_before data_here (suc at) = if data_here at then data_before data_here at + 1 else 0

-- such bytes from an address on, up to the first other address, at most a given number
abbrev pub data_from : (ℕ → Bool) → List ℕ → (most at : ℕ) → List ℕ
data_from data_here memory zero at = []
data_from data_here memory (suc most) at =
    if data_here at then slice_index memory at ∷ data_from data_here memory most (at + 1) else []

-- the line of data from an address on: eight bytes at most
abbrev pub data_line : (ℕ → Bool) → List ℕ → ℕ → List ℕ
data_line data_here memory at = word_text at ++ 32 ∷ (flat_map byte_text (data_from data_here memory 8 at) ++ codes " DATA\n")

-- how often an instruction was begun
abbrev pub count_text : ℕ → List ℕ
count_text zero = codes "-"
count_text (suc n) = decimal (suc n)

-- the line of an instruction, with its count if counts are shown
abbrev pub instruction_line : (shown : Bool) → (count : ℕ) → (at : ℕ) → Instr → List ℕ
instruction_line false count at instr = columns at (spelling instr) ++ (text instr ++ 10 ∷ [])
instruction_line true count at instr = columns at (spelling instr) ++ (filled (text instr) ++ (codes " | " ++ (count_text count ++ 10 ∷ [])))

-- the line that begins at an address, if one does: of the instruction there, or of data at each eighth of its bytes
abbrev pub line_of : (shown : Bool) → (count : ℕ) → (ℕ → Bool) → List ℕ → (at : ℕ) → Option Fetched → List ℕ
line_of shown count data_here memory at (Some found) = instruction_line shown count at found.instr
line_of shown count data_here memory at None =
    if data_here at && (data_before data_here at % 8 == 0) then data_line data_here memory at else []

abbrev pub line_at : (shown : Bool) → (counts : List ℕ) → Areas → List ℕ → List (Option Fetched) → ℕ → List ℕ
line_at shown counts regions memory table at = line_of shown (slice_index counts at) (is_data regions table) memory at (found_at table at)

-- the lines of all addresses
unfoldable pub cover_lines : (shown : Bool) → (counts : List ℕ) → Areas → List ℕ → List (Option Fetched) → List ℕ
cover_lines shown counts regions memory table = flat_map (line_at shown counts regions memory table) (range_with_len 0 65536)

-- the line before an address that is marked
abbrev pub mark_line : (at : ℕ) → List ℕ
mark_line at = codes "REFUSED AT " ++ (word_text at ++ 10 ∷ [])

abbrev pub mark_if : Bool → (at : ℕ) → List ℕ
mark_if true at = mark_line at
mark_if false at = []

abbrev pub marked_line_at : (marks : List Bool) → Areas → List ℕ → List (Option Fetched) → ℕ → List ℕ
marked_line_at marks regions memory table at = mark_if (slice_index_or marks at false) at ++ line_at false [] regions memory table at

-- the lines of all addresses, with one before each that is marked
unfoldable pub marked_lines : (marks : List Bool) → Areas → List ℕ → List (Option Fetched) → List ℕ
marked_lines marks regions memory table = flat_map (marked_line_at marks regions memory table) (range_with_len 0 65536)

-- how many of `left` addresses, from one on, pass a test
unfoldable pub tally : (ℕ → Bool) → (at left : ℕ) → ℕ
tally test at zero = 0
tally test at (suc left) = (if test at then 1 else 0) + tally test (at + 1) left

-- how many instructions a table has, and how many of them were begun
abbrev pub is_instruction : List (Option Fetched) → ℕ → Bool
is_instruction table at = is_some (found_at table at)

abbrev pub is_begun : (counts : List ℕ) → List (Option Fetched) → ℕ → Bool
is_begun counts table at = is_some (found_at table at) && nat_lt 0 (slice_index counts at)

-- the last line of a cover: how many instructions were begun, of all that walks reach
abbrev pub sums_line : (counts : List ℕ) → List (Option Fetched) → List ℕ
sums_line counts table = codes "REACHED " ++ (decimal (tally (is_begun counts table) 0 65536)
    ++ (codes " OF " ++ (decimal (tally (is_instruction table) 0 65536) ++ 10 ∷ [])))

-- the text is that of the instructions at exactly the addresses that walks of an image reach
pub record ListsReached (image : Located) (listed : List ℕ) : Type 0 where
  pub table : List (Option Fetched)
  pub reached : AreReached (code_of image) table
  pub lines : listed ≡ cover_lines false [] image.regions (memory_of image.chunks) table

-- the same with counts, and the sums
pub record CoversReached (image : Located) (counts listed : List ℕ) : Type 0 where
  pub table : List (Option Fetched)
  pub reached : AreReached (code_of image) table
  pub lines : listed ≡ cover_lines true counts image.regions (memory_of image.chunks) table ++ sums_line counts table
