-- The bytes of the instructions that a program may reach. (Intel 8080 Microcomputer Systems User's Manual: an instruction has one
-- to three bytes. That a byte which begins no instruction counts as one, so that the verifier names it, is this project's own.)
use Rattle.std.specs.Prelude.{ℕ, ◌-◌, ◌&&◌, ◌||◌, Bool, false, nat_le, nat_lt, List, Result, Ok, Err, get_or, if◌then◌else◌}
use Rattle.decode80.specs.declared.fetching.Fetched.{Fetched}
use Rattle.decode80.specs.declared.fetching.FetchFault.{FetchFault}
use Rattle.decode80.specs.declared.fetching.FetchFault.TheVariants.{Outside, Unused}
use Rattle.decode80.specs.Fetch.{behind}
use Rattle.image80.specs.Image.{Located, memory_of}
use Rattle.verify80.specs.LookLaws.{fetch_at}

-- how many bytes what was fetched at an address has
abbrev pub size_of : Result Fetched FetchFault → ℕ → ℕ
size_of (Ok found) at = behind found.next at
size_of (Err Unused) at = 1
size_of (Err Outside) at = 0

-- how many bytes the instruction at a marked address has; 0 if there is none
unfoldable pub size_at : Located → List Bool → ℕ → ℕ
size_at image reached at = if get_or reached at false then size_of (fetch_at image.regions (memory_of image.chunks) at) at else 0

-- whether an address is in an instruction at a marked address: one that begins there, or one or two addresses before it
abbrev pub is_covered : Located → List Bool → ℕ → Bool
is_covered image reached address = nat_lt 0 (size_at image reached address)
    || ((nat_le 1 address && nat_lt 1 (size_at image reached (address - 1)))
    || (nat_le 2 address && nat_lt 2 (size_at image reached (address - 2))))
