-- What the verifier looks at in an image: at each address of its memory the one instruction that a fetch finds there inside
-- the code, unless it is one of three kinds that are not admitted. (Intel 8080 Microcomputer Systems User's Manual: EI lets
-- interrupts in after the next instruction, and HLT waits for one, so that PL/M's HALT is EI followed by HLT. That EI is
-- admitted nowhere else, PCHL only if its targets are declared, and STA and SHLD only if they store to data, is this
-- project's own.)
use Rattle.std.specs.Prelude.{ℕ, Bool, true, false, not, ◌&&◌, nat_eq, List, [], is_some, Result, Ok, Err, slice_index, if◌then◌else◌}
use Rattle.std.specs.Option.{option_map_or}
use Rattle.std.specs.List.{list_all}
use Rattle.decode80.specs.declared.fetching.FetchFault.{FetchFault}
use Rattle.decode80.specs.declared.fetching.FetchFault.TheVariants.{Outside as FetchOutside, Unused as FetchUnused}
use Rattle.decode80.specs.declared.fetching.Fetched.{Fetched}
use Rattle.decode80.specs.declared.instr.Instr.{Instr}
use Rattle.decode80.specs.declared.instr.Instr.TheVariants.{Ei, Hlt, Pchl}
use Rattle.decode80.specs.Spelling.{opcode}
use Rattle.decode80.specs.Fetch.{ahead, direct_bytes, fetch}
use Rattle.image80.specs.Image.{Located, memory_of}
use Rattle.image80.specs.Regions.{Areas, in_code, in_data, top_of, targets_at}
use Rattle.frames80.specs.declared.code.LookFault.{LookFault}
use Rattle.frames80.specs.declared.code.LookFault.TheVariants.{Outside, Unused, EnablesInterrupts, Pchl as PchlUndeclared, DirectStore}
use Rattle.frames80.specs.Code.{Code}

-- the byte after an address is a HLT in the code; after FFFF comes 0000, as for the program counter
abbrev pub halt_follows : Areas → (memory : List ℕ) → (at : ℕ) → Bool
halt_follows regions memory at = in_code regions (ahead at 1) && nat_eq (slice_index memory (ahead at 1)) (opcode Hlt)

abbrev pub is_ei : Instr → Bool
is_ei Ei = true
is_ei _ = false

abbrev pub is_pchl : Instr → Bool
is_pchl Pchl = true
is_pchl _ = false

-- whether targets are declared for an address, and these targets; none if they aren't
abbrev pub is_declared : Areas → (at : ℕ) → Bool
is_declared regions at = is_some (targets_at regions at)

abbrev pub declared_targets : Areas → (at : ℕ) → List ℕ
declared_targets regions at = option_map_or (λ targets. targets) (targets_at regions at) []

-- each byte that an instruction stores to by its address is data
abbrev pub stores_in_data : Areas → Instr → Bool
stores_in_data regions instr = list_all (in_data regions) (direct_bytes instr)

-- what was fetched, or why it is not admitted: it is an EI that no HLT follows, a PCHL for which no targets are declared, or it
-- stores to an address outside data
abbrev pub admitted : Areas → (memory : List ℕ) → (at : ℕ) → Fetched → Result Fetched LookFault
admitted regions memory at found =
    if is_ei found.instr && not (halt_follows regions memory at) then Err EnablesInterrupts
    else (if is_pchl found.instr && not (is_declared regions at) then Err PchlUndeclared
    else (if stores_in_data regions found.instr then Ok found else Err DirectStore))

-- what a fetch has answered, if it found an instruction that is admitted
abbrev pub looked : Areas → (memory : List ℕ) → (at : ℕ) → Result Fetched FetchFault → Result Fetched LookFault
looked regions memory at (Ok found) = admitted regions memory at found
looked regions memory at (Err FetchOutside) = Err Outside
looked regions memory at (Err FetchUnused) = Err Unused

-- the instruction at an address of a memory and the address after it, or the first fault: its first byte is no code, it is
-- unused, another byte is no code or past FFFF, or the instruction is not admitted
unfoldable pub look_at : Areas → (memory : List ℕ) → (at : ℕ) → Result Fetched LookFault
look_at regions memory at = looked regions memory at (fetch (in_code regions) (λ place. slice_index memory place) at)

-- an image as the verifier goes by it
abbrev pub code_of : Located → Code
code_of image = record {
  look = look_at image.regions (memory_of image.chunks);
  targets = declared_targets image.regions;
  start = image.start;
  top = top_of image.regions;
  stack = image.regions.stack.length;
}
