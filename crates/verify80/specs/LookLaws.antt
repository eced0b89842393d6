-- What a look at an address says of it, both ways: an instruction is admitted there, or one fault holds. (This project's own.)
use Rattle.std.specs.Prelude.{◌≡◌, ◌↔◌, ℕ, true, false, List, Result, Ok, Err, slice_index}
use Rattle.decode80.specs.declared.fetching.FetchFault.{FetchFault}
use Rattle.decode80.specs.declared.fetching.FetchFault.TheVariants.{Outside as FetchOutside, Unused as FetchUnused}
use Rattle.decode80.specs.declared.fetching.Fetched.{Fetched}
use Rattle.decode80.specs.declared.instr.Instr.TheVariants.{Ei, Pchl}
use Rattle.decode80.specs.Fetch.{fetch}
use Rattle.image80.specs.Regions.{Areas, in_code}
use Rattle.frames80.specs.declared.code.LookFault.{LookFault}
use Rattle.frames80.specs.declared.code.LookFault.TheVariants.{Outside, Unused, EnablesInterrupts, Pchl as PchlUndeclared, DirectStore}
use Rattle.verify80.specs.Looking.{halt_follows, is_declared, stores_in_data, look_at}

-- what a fetch answers at an address of a memory
abbrev pub fetch_at : Areas → (memory : List ℕ) → (at : ℕ) → Result Fetched FetchFault
fetch_at regions memory at = fetch (in_code regions) (λ place. slice_index memory place) at

-- an instruction is fetched inside the code; if it is an EI, a HLT follows; if it is a PCHL, targets are declared for it; it
-- stores to no address outside data
pub record IsAdmitted (regions : Areas) (memory : List ℕ) (at : ℕ) (found : Fetched) : Type 0 where
  pub fetched : fetch_at regions memory at ≡ Ok found
  pub halts : found.instr ≡ Ei → halt_follows regions memory at ≡ true
  pub declared : found.instr ≡ Pchl → is_declared regions at ≡ true
  pub stores : stores_in_data regions found.instr ≡ true

-- an EI is fetched that no HLT follows
pub record IsEiAlone (regions : Areas) (memory : List ℕ) (at : ℕ) : Type 0 where
  pub found : Fetched
  pub fetched : fetch_at regions memory at ≡ Ok found
  pub is_ei : found.instr ≡ Ei
  pub alone : halt_follows regions memory at ≡ false

-- a PCHL is fetched for which no targets are declared
pub record IsPchlUndeclared (regions : Areas) (memory : List ℕ) (at : ℕ) : Type 0 where
  pub found : Fetched
  pub fetched : fetch_at regions memory at ≡ Ok found
  pub is_pchl : found.instr ≡ Pchl
  pub undeclared : is_declared regions at ≡ false

-- an instruction is fetched that stores to an address outside data
pub record IsStoreOutside (regions : Areas) (memory : List ℕ) (at : ℕ) : Type 0 where
  pub found : Fetched
  pub fetched : fetch_at regions memory at ≡ Ok found
  pub outside : stores_in_data regions found.instr ≡ false

-- the fault holds at the address
abbrev pub IsFaultAt : Areas → (memory : List ℕ) → (at : ℕ) → LookFault → Type 0
IsFaultAt regions memory at Outside = fetch_at regions memory at ≡ Err FetchOutside
IsFaultAt regions memory at Unused = fetch_at regions memory at ≡ Err FetchUnused
IsFaultAt regions memory at EnablesInterrupts = IsEiAlone regions memory at
IsFaultAt regions memory at PchlUndeclared = IsPchlUndeclared regions memory at
IsFaultAt regions memory at DirectStore = IsStoreOutside regions memory at

-- a look finds exactly the instructions that are admitted, and answers exactly the faults that hold
abbrev pub LooksFindWhatIsAdmitted : Type 0
LooksFindWhatIsAdmitted = (regions : Areas) (memory : List ℕ) (at : ℕ) (found : Fetched) →
    (look_at regions memory at ≡ Ok found) ↔ IsAdmitted regions memory at found

abbrev pub LooksAnswerFaultsThatHold : Type 0
LooksAnswerFaultsThatHold = (regions : Areas) (memory : List ℕ) (at : ℕ) (fault : LookFault) →
    (look_at regions memory at ≡ Err fault) ↔ IsFaultAt regions memory at fault
