-- What tables of states that fit leave open of a program. (This project's own.)
use Rattle.std.specs.Prelude.{◌≡◌, ◌&&◌, ℕ, Bool, true, false, List, Option, Some, slice_get}
use Rattle.decode80.specs.declared.fetching.Fetched.{Fetched}
use Rattle.image80.specs.{Image.Located, Regions.Areas}
use Rattle.verify80.specs.{Looking.declared_targets, Reached.found_at}
use Rattle.verify80_spans.specs.declared.span.Span.{Span}
use Rattle.verify80_states.specs.{declared.fitting.fitting.Placed.Placed, Runs.IsKept}
use Rattle.verify80_stores.specs.{declared.listing.Note.Note, Opening.StaysIn, Opening.pointer_span, Listing.IsLeftAt, Listing.IsSpanned, Listing.note_at}

-- what is noted of an address by both
abbrev pub noted_by_both : (first other : List Note) → ℕ → Note
noted_by_both first other at = record { is_open = (note_at first at).is_open && (note_at other at).is_open; span = (note_at first at).span }

-- a table to which all runs keep
pub record KeptTable (image : Located) (quiet : ℕ → Bool) : Type 0 where
  pub table : List Placed
  pub kept : IsKept image quiet table

-- each state that a table has at an address stores to data and jumps to a declared target
abbrev pub IsShutAt : Areas → List (Option Fetched) → List Placed → (at : ℕ) → Type 0
IsShutAt regions reached table at = (place : ℕ) (placed : Placed) (found : Fetched) → slice_get table place ≡ Some placed → placed.at ≡ at →
    found_at reached at ≡ Some found → StaysIn regions (declared_targets regions at) found.instr placed.state.known

-- a table that is kept lets the instruction at an address stay inside
pub record IsShut (image : Located) (quiet : ℕ → Bool) (reached : List (Option Fetched)) (at : ℕ) : Type 0 where
  pub by : KeptTable image quiet
  pub shut : IsShutAt image.regions reached by.table at

-- Notes by address. If none says that the instruction at an address is open, a table that is kept lets it stay inside. One such table leaves
-- it open at each other address: the spans are those of its states.
pub record AreShown (image : Located) (quiet : ℕ → Bool) (reached : List (Option Fetched)) (notes : List Note) : Type 0 where
  pub first : KeptTable image quiet
  pub stays : (at : ℕ) → (note_at notes at).is_open ≡ false → IsShut image quiet reached at
  pub leaves : (at : ℕ) → (note_at notes at).is_open ≡ true → IsLeftAt image.regions reached first.table at
  pub spans : (place : ℕ) (placed : Placed) (found : Fetched) (span : Span) → slice_get first.table place ≡ Some placed →
      found_at reached placed.at ≡ Some found → pointer_span found.instr placed.state.known ≡ Some span → IsSpanned notes placed.at span
