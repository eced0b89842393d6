-- What is known of the register-indirect stores of a program, and of its jumps by PCHL, in all of its runs. (This project's own;
-- runs are those of the machine, from power-on.)
use Rattle.std.specs.Prelude.{◌≡◌, ◌≢◌, ◌↔◌, ◌<◌, ℕ, Bool, true, false, List, All, Any, AllPairs, Contains, Option, Some, Ok}
use Rattle.decode80.specs.declared.{instr.Instr.Instr, fetching.Fetched.Fetched}
use Rattle.image80.specs.{Regions.Areas, Regions.in_data, Image.Located, Image.memory_of}
use Rattle.machine80.specs.declared.end.End.{End}
use Rattle.machine80.specs.declared.end.End.TheVariants.{Halt, InputEnd, OutputRefused, StoreOutside, JumpOutside, Fetch, Stack, Direct}
use Rattle.machine80.specs.{Effects.pointed_bytes, Step.Machine, Step.Stop, World.World, World.IsWorldOf, World.turn_at, World.fetched_by}
use Rattle.frames80.specs.Code.{Code}
use Rattle.verify80.specs.{Looking.code_of, Looking.is_pchl, Starts.IsStart, Starts.IsWorldFrom, Reached.IsReached}
use Rattle.verify80_states.specs.Bytes.{HasBytes, HoldsBytes}
use Rattle.verify80_spans.specs.Span.{Within}
use Rattle.verify80_stores.specs.declared.stores.OpenStore.{OpenStore}
use Rattle.verify80_stores.specs.Pointers.{stores_by_pair}

-- a walk reaches an address, and the instruction there is of a kind
pub record IsReachedAs (code : Code) (kind : Instr → Bool) (at : ℕ) : Type 0 where
  pub reached : IsReached code at
  pub found : Fetched
  pub looked : code.look at ≡ Ok found
  pub is : kind found.instr ≡ true

-- addresses, ascending: exactly those that a walk reaches, of instructions of a kind
pub record AreReachedAs (code : Code) (kind : Instr → Bool) (addresses : List ℕ) : Type 0 where
  pub ascending : AllPairs (λ a b. a < b) addresses
  pub each : (at : ℕ) → Contains addresses at ↔ IsReachedAs code kind at

-- an open store: a register-indirect store that a walk reaches, with a span in which not each address is data
pub record IsOpen (image : Located) (store : OpenStore) : Type 0 where
  pub reached : IsReached (code_of image) store.at
  pub found : Fetched
  pub looked : (code_of image).look store.at ≡ Ok found
  pub instr : found.instr ≡ store.instr
  pub stores : stores_by_pair store.instr ≡ true
  pub outside : ℕ
  pub within : Within store.span outside
  pub no_data : in_data image.regions outside ≡ false

-- an address that the instruction at `at` stores to: of the span of the open store there, or data if none is listed there
pub record GoesAsListed (regions : Areas) (open_stores : List OpenStore) (at address : ℕ) : Type 0 where
  pub listed : All (λ store. store.at ≡ at → Within store.span address) open_stores
  pub unlisted : All (λ store. store.at ≢ at) open_stores → in_data regions address ≡ true

-- what a run may end with at an instruction: HLT, an empty port, a refused output, a store of the span that is listed there, or a
-- listed PCHL
abbrev pub EndsAsListed : (open_stores : List OpenStore) → (jumps : List ℕ) → (at : ℕ) → End → Type 0
EndsAsListed open_stores jumps at Halt = Unit {0}
EndsAsListed open_stores jumps at (InputEnd _) = Unit {0}
EndsAsListed open_stores jumps at (OutputRefused _) = Unit {0}
EndsAsListed open_stores jumps at (StoreOutside address) = Any (λ store. (store.at ≡ at) × Within store.span address) open_stores
EndsAsListed open_stores jumps at (JumpOutside _) = Contains jumps at
EndsAsListed open_stores jumps at (Fetch _) = ⊥
EndsAsListed open_stores jumps at (Stack _) = ⊥
EndsAsListed open_stores jumps at (Direct _) = ⊥

-- Two claims on each world of each run from power-on, whatever bytes are in the registers, in memory outside the code and at the
-- ports, however many outputs are taken and however long it runs.

-- each register-indirect store goes where it is listed to go, or to data
abbrev pub StoresGoAsListed : Located → List OpenStore → Type 0
StoresGoAsListed image open_stores =
    (start : Machine) → IsStart image start → HoldsBytes start → (most : Option ℕ) (w : World) (found : Fetched) →
    IsWorldFrom image start most w → fetched_by image.regions w ≡ Some found →
    All (GoesAsListed image.regions open_stores w.machine.cpu.pc) (pointed_bytes found.instr w.machine.cpu.registers)

-- each run ends, if at all, as is listed
abbrev pub RunsEndAsListed : Located → List OpenStore → (jumps : List ℕ) → Type 0
RunsEndAsListed image open_stores jumps =
    (start : Machine) → IsStart image start → HoldsBytes start → (most : Option ℕ) (w : World) (e : End) →
    IsWorldFrom image start most w → turn_at image.regions most w ≡ Stop e → EndsAsListed open_stores jumps w.machine.cpu.pc e

-- what is listed of an image: each register-indirect store and each PCHL that walks reach, and the open ones among them; and its runs
-- go so
pub record AreStoresOf (image : Located) (addresses : List ℕ) (open_stores : List OpenStore) (jumps open_jumps : List ℕ) : Type 0 where
  pub each_store : AreReachedAs (code_of image) stores_by_pair addresses
  pub open_ascending : AllPairs (λ a b. a.at < b.at) open_stores
  pub each_open : All (IsOpen image) open_stores
  pub each_jump : AreReachedAs (code_of image) is_pchl jumps
  pub jumps_ascending : AllPairs (λ a b. a < b) open_jumps
  pub each_open_jump : All (IsReachedAs (code_of image) is_pchl) open_jumps
  pub stores_go : StoresGoAsListed image open_stores
  pub runs_end : RunsEndAsListed image open_stores open_jumps

-- the runs of the watched machine, which begin with the image's memory and with registers of 0, are some of these, if bytes wait at
-- the ports: their stores go as listed, and they end as listed
pub record WatchedRunsGoAsListed (image : Located) (open_stores : List OpenStore) (jumps : List ℕ) : Type 0 where
  pub stores_go : (most : Option ℕ) (w : World) (run : IsWorldOf image most w) → All HasBytes run.inputs → (found : Fetched) →
      fetched_by image.regions w ≡ Some found →
      All (GoesAsListed image.regions open_stores w.machine.cpu.pc) (pointed_bytes found.instr w.machine.cpu.registers)
  pub runs_end : (most : Option ℕ) (w : World) (run : IsWorldOf image most w) → All HasBytes run.inputs → (e : End) →
      turn_at image.regions most w ≡ Stop e → EndsAsListed open_stores jumps w.machine.cpu.pc e

abbrev pub StoresAreThoseOfWatchedRuns : Type 0
StoresAreThoseOfWatchedRuns = (image : Located) (addresses : List ℕ) (open_stores : List OpenStore) (jumps open_jumps : List ℕ) →
    HasBytes (memory_of image.chunks) → AreStoresOf image addresses open_stores jumps open_jumps → WatchedRunsGoAsListed image open_stores open_jumps
