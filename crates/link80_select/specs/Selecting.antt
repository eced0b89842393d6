-- Words for the private functions that select modules: all modules in one row, the roots first, and marks on the row.
use Rattle.std.specs.Prelude.{◌≡◌, ◌↔◌, ℕ, ◌+◌, ◌<◌, ◌⊎◌, Bool, true, false, not, if◌then◌else◌, Some, List, [], ◌∷◌, ◌++◌, slice_get, filter_map, length, Contains, count_by}
use Rattle.std.specs.List.{slice_index_or}
use Rattle.omf_model.specs.Modules.{ModuleValue}
use Rattle.omf_library.specs.Providers.{first_provider}
use Rattle.link80_select.specs.declared.chosen.Chosen.{Chosen}
use Rattle.link80_select.specs.declared.selecting.Search.{Search}

-- the modules of the libraries, one library after another
abbrev pub members : List (List ModuleValue) → List ModuleValue
members [] = []
members (l ∷ ls) = l ++ members ls

-- and their places
abbrev pub places_in : (library at : ℕ) → List ModuleValue → List Chosen
places_in library at [] = []
places_in library at (m ∷ ms) = record { library = library; «module» = at } ∷ places_in library (at + 1) ms

abbrev pub places_from : ℕ → List (List ModuleValue) → List Chosen
places_from at [] = []
places_from at (l ∷ ls) = places_in at 0 l ++ places_from (at + 1) ls

-- the places with a mark
abbrev pub marked_places : List Chosen → List Bool → List Chosen
marked_places [] marked = []
marked_places (p ∷ ps) [] = []
marked_places (p ∷ ps) (b ∷ bs) = if b then p ∷ marked_places ps bs else marked_places ps bs

-- the numbers of the first modules in the row that declare the externals of a module
abbrev pub needed : List ModuleValue → ModuleValue → List ℕ
needed row m = filter_map (first_provider row) m.externals

-- numbers that are reached from the roots by needs
pub data IsReached (row : List ModuleValue) (roots : ℕ) : ℕ → Type 0 where
  root : (n : ℕ) → n < roots → IsReached row roots n
  needed_by : (n k : ℕ) (m : ModuleValue) → IsReached row roots n → slice_get row n ≡ Some m → Contains (needed row m) k
      → IsReached row roots k

abbrev pub is_marked : List Bool → ℕ → Bool
is_marked marked k = slice_index_or marked k false

pub record AreReached (row : List ModuleValue) (roots : ℕ) (marked : List Bool) : Type 0 where
  pub reached : (k : ℕ) → (is_marked marked k ≡ true) ↔ IsReached row roots k
  pub places : length marked ≡ length row

-- each number with a mark stands once in the queue, and no other number
pub record IsQueue (marked : List Bool) (queue : List ℕ) : Type 0 where
  pub queued : (k : ℕ) → is_marked marked k ≡ true → Contains queue k
  pub has_mark : (k : ℕ) → Contains queue k → is_marked marked k ≡ true
  pub room : length queue + count_by not marked ≡ length marked

-- some numbers are marked, and those that weren't yet are put last into the queue
pub record Marks (numbers : List ℕ) (was_marked : List Bool) (was_queue : List ℕ) (marked : List Bool)
    (queue : List ℕ) : Type 0 where
  pub kept : (k : ℕ) → is_marked was_marked k ≡ true → is_marked marked k ≡ true
  pub all : (k : ℕ) → Contains numbers k → is_marked marked k ≡ true
  pub only : (k : ℕ) → is_marked marked k ≡ true → (is_marked was_marked k ≡ true) ⊎ Contains numbers k
  pub stays : (i n : ℕ) → slice_get was_queue i ≡ Some n → slice_get queue i ≡ Some n
  pub places : length marked ≡ length was_marked
  pub queues : IsQueue was_marked was_queue → IsQueue marked queue

-- the same of a search
abbrev pub MarksIn : List ℕ → Search → Search → Type 0
MarksIn numbers was now = Marks numbers was.marked.items was.queue.items now.marked.items now.queue.items

-- the search so far: what the first numbers of the queue need is marked
pub record IsSearched (row : List ModuleValue) (roots looked_at : ℕ) (marked : List Bool) (queue : List ℕ) : Type 0 where
  pub reached : (k : ℕ) → is_marked marked k ≡ true → IsReached row roots k
  pub started : (k : ℕ) → k < roots → is_marked marked k ≡ true
  pub closed : (i n k : ℕ) (m : ModuleValue) → i < looked_at → slice_get queue i ≡ Some n → slice_get row n ≡ Some m
      → Contains (needed row m) k
      → is_marked marked k ≡ true
  pub is_queue : IsQueue marked queue
  pub places : length marked ≡ length row
