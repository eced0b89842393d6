-- The line of an instruction up to its frame: the address, the bytes and the text, as `list` prints them, and a bar in one column.
-- (Texts: 8080 Assembly Language Programming Manual. The columns are this project's own, and that an instruction is shown where
-- the verifier would fetch it: each of its bytes is code, of whichever ranges.)
use Rattle.std.specs.Prelude.{ℕ, List, [], ◌∷◌, ◌++◌, Result, Ok, Err, length, drop, slice_index, codes, if◌then◌else◌}
use Rattle.decode80.specs.declared.fetching.FetchFault.{FetchFault}
use Rattle.decode80.specs.declared.fetching.Fetched.{Fetched}
use Rattle.decode80.specs.declared.instr.Instr.{Instr}
use Rattle.decode80.specs.Fetch.{fetch}
use Rattle.decode80.specs.Spelling.{spelling}
use Rattle.decode80.specs.Text.{text}
use Rattle.image80.specs.Image.{Located, memory_of}
use Rattle.image80.specs.Regions.{in_code}
use Rattle.image80_text.specs.Listing.{columns}

-- the byte at an address of an image
abbrev pub held_at : Located → ℕ → ℕ
held_at image address = slice_index (memory_of image.chunks) address

-- a text filled with spaces to ten places
abbrev pub filled : List ℕ → List ℕ
filled shown = shown ++ drop (length shown) (codes "          ")

-- an instruction: the columns of its bytes, and its text
abbrev pub found_text : (at : ℕ) → Instr → List ℕ
found_text at instr = columns at (spelling instr) ++ filled (text instr)

-- the byte at an address, if it is code
abbrev pub byte_of : Located → (at : ℕ) → List ℕ
byte_of image at = if in_code image.regions at then held_at image at ∷ [] else []

-- an address where no instruction can be fetched: its byte if it is code
abbrev pub unknown_text : Located → (at : ℕ) → List ℕ
unknown_text image at = columns at (byte_of image at) ++ codes "??        "

abbrev pub fetched_text : Located → (at : ℕ) → Result Fetched FetchFault → List ℕ
fetched_text image at (Ok found) = found_text at found.instr
fetched_text image at (Err fault) = unknown_text image at

-- what stands before the frame in the line of an address
abbrev pub instruction_text : Located → (at : ℕ) → List ℕ
instruction_text image at =
    fetched_text image at (fetch (in_code image.regions) (λ address. held_at image address) at) ++ codes " |"
