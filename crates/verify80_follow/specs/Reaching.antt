-- The instructions at which the states of a table stand. (This project's own.)
use Rattle.std.specs.Prelude.{◌≡◌, ◌<◌, ℕ, Bool, true, List, Option, Some, Ok, All, AllPairs, Any, length, map, ◌++◌}
use Rattle.std.specs.List.{flat_map}
use Rattle.decode80.specs.declared.{fetching.Fetched.Fetched, instr.Instr.Instr}
use Rattle.image80.specs.{Image.Located, Image.memory_of}
use Rattle.verify80.specs.{LookLaws.fetch_at, Looking.is_pchl, Reached.found_at}
use Rattle.verify80_stores.specs.declared.stores.{OpenStore.OpenStore, Stores.Stores}
use Rattle.verify80_stores.specs.{Listing.addresses_where, Listing.instr_in, Listing.is_at, Pointers.stores_by_pair}
use Rattle.verify80_follow.specs.declared.{fit.Table.Table, followed.Listed.Listed, handling.Handler.Handler}

-- where the states of a program's table stand, those of its summaries, and those of its handlers' tables
abbrev pub places_of : Table → List Handler → List ℕ
places_of table handlers = map (λ s. s.at) table.states.items
    ++ (flat_map (λ summary. map (λ s. s.at) summary.states.items) table.summaries.items ++ flat_map (λ handler. map (λ s. s.at) handler.table.states.items) handlers)

-- by address the image's instruction: only at one of the places, and at each
pub record AreFollowed (image : Located) (places : List ℕ) (reached : List (Option Fetched)) : Type 0 where
  pub whole : length reached ≡ 65536
  pub only : (at : ℕ) (found : Fetched) → found_at reached at ≡ Some found →
      Any (λ place. place ≡ at) places × (fetch_at image.regions (memory_of image.chunks) at ≡ Ok found)
  pub each : All (λ place. (found : Fetched) → fetch_at image.regions (memory_of image.chunks) place ≡ Ok found → found_at reached place ≡ Some found) places

-- the image's instruction at an address is of a kind, and the address is one of the places
pub record HasAt (image : Located) (places : List ℕ) (kind : Instr → Bool) (at : ℕ) : Type 0 where
  pub placed : Any (λ place. place ≡ at) places
  pub found : Fetched
  pub fetched : fetch_at image.regions (memory_of image.chunks) at ≡ Ok found
  pub is : kind found.instr ≡ true

-- ascending addresses of such instructions
pub record AreAt (image : Located) (places : List ℕ) (kind : Instr → Bool) (addresses : List ℕ) : Type 0 where
  pub ascending : AllPairs (λ a b. a < b) addresses
  pub each : All (HasAt image places kind) addresses

-- what a table leaves open is listed by address: stores and jumps by pairs
pub record AreListed (image : Located) (places : List ℕ) (listed : Listed) : Type 0 where
  pub stores : AreAt image places stores_by_pair (map (λ store. store.at) listed.stores.items)
  pub jumps : AreAt image places is_pchl listed.jumps.items

-- an open store with the instruction that is reached at its address
abbrev pub with_instr : List (Option Fetched) → OpenStore → OpenStore
with_instr reached store = record store { instr = instr_in (found_at reached store.at) }

-- the stores and jumps by pairs among these instructions, and those that a table leaves open
pub record AreStoresFollowed (listed : Listed) (sets : Bool) (reached : List (Option Fetched)) (stores : Stores) : Type 0 where
  pub addresses : stores.addresses.items ≡ addresses_where (is_at stores_by_pair reached)
  pub open_stores : stores.open.items ≡ map (with_instr reached) listed.stores.items
  pub jumps : stores.jumps.items ≡ addresses_where (is_at is_pchl reached)
  pub open_jumps : stores.open_jumps.items ≡ listed.jumps.items
  pub sets_stack : stores.sets_stack ≡ sets
