-- The slots of places: a table by slots has an entry for each port and each cell. (This project's own.)
use Rattle.std.specs.Prelude.{◌≡◌, ℕ, ◌+◌, List, length}
use Rattle.board80.specs.declared.place.Place.{Place}
use Rattle.board80.specs.declared.place.Place.TheVariants.{Port, Cell}

-- each place has a slot: the ports first, then the cells
abbrev pub slot_of : Place → ℕ
slot_of (Port port) = port
slot_of (Cell address) = 256 + address

abbrev pub slot_count : ℕ
slot_count = 65792

-- there is one of each slot
abbrev pub HaveSlots : {A : Type 0} → List A → Type 0
HaveSlots slots = length slots ≡ slot_count
