-- What is listed of the instructions that are reached, by the states that a table has for them. (This project's own.)
use Rattle.std.specs.Prelude.{◌≡◌, ◌<◌, ◌&&◌, ◌||◌, ℕ, Bool, true, false, not, List, All, AllPairs, Any, Contains, Option, None, Some, slice_get, slice_index_or, unwrap_or}
use Rattle.std.specs.List.{filter, range_with_len}
use Rattle.decode80.specs.declared.{instr.Instr.Instr, instr.Instr.TheVariants.Nop, fetching.Fetched.Fetched}
use Rattle.image80.specs.{Regions.Areas, Regions.AreRegions, Image.Located}
use Rattle.machine80.specs.{Step.Machine, World.World}
use Rattle.verify80.specs.{Starts.NeverGoesWrongFromPowerOn, Reached.StaysOnWalks, Reached.found_at, Looking.declared_targets, Looking.is_pchl}
use Rattle.verify80.specs.Boards.{Anywhere, Executes, IsGuarded, KeepsPromise, KeepsToWalks, MayStart, OnBoard, with_respected_pointer, sets_sp}
use Rattle.verify80_spans.specs.declared.span.Span.{Span}
use Rattle.verify80_spans.specs.Span.{IsInside, any_word}
use Rattle.verify80_states.specs.declared.fitting.fitting.Placed.{Placed}
use Rattle.verify80_stores.specs.declared.{listing.Kind.Kind, listing.Kind.TheVariants.Store, listing.Kind.TheVariants.Jump, listing.Note.Note, stores.OpenStore.OpenStore}
use Rattle.verify80_stores.specs.{Pointers.stores_by_pair, Opening.pointer_span, Opening.StaysIn, Opening.IsLeftOpen}

-- no run of the image goes wrong, and each stays on walks; and so it is on boards
pub record AreKnown (image : Located) (bytes : ℕ) : Type 0 where
  pub rules : AreRegions image.regions
  pub sound : NeverGoesWrongFromPowerOn image bytes
  pub walks : StaysOnWalks image
  pub promise : (start : Machine) (began : Bool) → MayStart image began start → (w : World) (set : Bool) →
      OnBoard image.regions Anywhere start began set w → KeepsPromise image Anywhere bytes w
  pub boards : (start : Machine) (began : Bool) → MayStart image began start → (w : World) (set : Bool) →
      OnBoard image.regions Anywhere start began set w → KeepsToWalks image w
  pub guarded : (start : Machine) (began : Bool) → MayStart image began start → (w v : World) (set : Bool) →
      OnBoard image.regions Anywhere start began set w → (step : Executes image.regions Anywhere w v) →
      IsGuarded image.regions w.machine step.after
  pub unset : (start : Machine) (began : Bool) → MayStart image began start → (w v : World) (before set : Bool) →
      OnBoard image.regions Anywhere start began before w → (step : Executes image.regions Anywhere w v) →
      set ≡ (before || sets_sp step.found.instr) →
      Executes image.regions Anywhere (with_respected_pointer image.regions before w) (with_respected_pointer image.regions set v)

-- what is noted of an address: nothing, if it isn't one of memory
abbrev pub no_note : Note
no_note = record { is_open = false; span = None }

abbrev pub note_at : List Note → ℕ → Note
note_at notes at = slice_index_or notes at no_note

-- the kinds of instructions that are listed
abbrev pub is_of : Kind → Instr → Bool
is_of Store instr = stores_by_pair instr
is_of Jump instr = is_pchl instr

abbrev pub is_kind : (Instr → Bool) → Option Fetched → Bool
is_kind kind None = false
is_kind kind (Some found) = kind found.instr

-- whether the instruction at an address is of a kind; and is open, if that is asked for
abbrev pub is_at : (Instr → Bool) → List (Option Fetched) → ℕ → Bool
is_at kind reached at = is_kind kind (found_at reached at)

abbrev pub is_listed : (Instr → Bool) → (only_open : Bool) → List (Option Fetched) → List Note → ℕ → Bool
is_listed kind only_open reached notes at = (not only_open || (note_at notes at).is_open) && is_at kind reached at

-- the addresses for which something holds; they are ascending, and all of those below a bound
unfoldable pub addresses_where : (ℕ → Bool) → List ℕ
addresses_where is = filter is (range_with_len 0 65536)

pub record AreAllBelow (is : ℕ → Bool) (bound : ℕ) (addresses : List ℕ) : Type 0 where
  pub ascending : AllPairs (λ a b. a < b) addresses
  pub each : (at : ℕ) → Contains addresses at → (at < bound) × (is at ≡ true)
  pub all : (at : ℕ) → at < bound → is at ≡ true → Contains addresses at

-- a state of the table that leaves open the instruction at an address
pub record IsLeftAt (regions : Areas) (reached : List (Option Fetched)) (table : List Placed) (at : ℕ) : Type 0 where
  pub place : ℕ
  pub placed : Placed
  pub found : Fetched
  pub there : slice_get table place ≡ Some placed
  pub here : placed.at ≡ at
  pub instr : found_at reached at ≡ Some found
  pub leaves : IsLeftOpen regions found.instr placed.state.known

-- the span that is noted of an address has the words of another
pub record IsSpanned (notes : List Note) (at : ℕ) (span : Span) : Type 0 where
  pub whole : Span
  pub there : (note_at notes at).span ≡ Some whole
  pub inside : IsInside span whole

-- the instruction at a state's address stays inside in that state, unless the note says that it is open; and its span has the state's words
pub record IsNoted (regions : Areas) (notes : List Note) (placed : Placed) (found : Fetched) : Type 0 where
  pub stays : (note_at notes placed.at).is_open ≡ false → StaysIn regions (declared_targets regions placed.at) found.instr placed.state.known
  pub spans : (span : Span) → pointer_span found.instr placed.state.known ≡ Some span → IsSpanned notes placed.at span

-- notes by address of the states of a table
pub record AreNotes (regions : Areas) (reached : List (Option Fetched)) (table : List Placed) (notes : List Note) : Type 0 where
  pub each : (place : ℕ) (placed : Placed) (found : Fetched) → slice_get table place ≡ Some placed → found_at reached placed.at ≡ Some found →
      IsNoted regions notes placed found
  pub leaves : (at : ℕ) → (note_at notes at).is_open ≡ true → IsLeftAt regions reached table at

-- the store at an address: the instruction, and the span that is noted
abbrev pub instr_in : Option Fetched → Instr
instr_in None = Nop
instr_in (Some found) = found.instr

abbrev pub store_at : List (Option Fetched) → List Note → ℕ → OpenStore
store_at reached notes at = record { at = at; instr = instr_in (found_at reached at); span = unwrap_or (note_at notes at).span any_word }

-- such stores, ascending: each is open, and all that are open are among them
pub record IsListed (reached : List (Option Fetched)) (notes : List Note) (store : OpenStore) : Type 0 where
  pub found : Fetched
  pub there : found_at reached store.at ≡ Some found
  pub instr : found.instr ≡ store.instr
  pub stores : stores_by_pair store.instr ≡ true
  pub is_open : (note_at notes store.at).is_open ≡ true
  pub span : unwrap_or (note_at notes store.at).span any_word ≡ store.span

pub record AreOpen (reached : List (Option Fetched)) (notes : List Note) (stores : List OpenStore) : Type 0 where
  pub ascending : AllPairs (λ a b. a.at < b.at) stores
  pub each : All (IsListed reached notes) stores
  pub all : (at : ℕ) → at < 65536 → is_listed stores_by_pair true reached notes at ≡ true → Any (λ store. store.at ≡ at) stores
