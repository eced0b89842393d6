-- When marked addresses are all that the main program may reach with SP not set. (This project's own.)
use Rattle.std.specs.Prelude.{◌≡◌, ◌<◌, ℕ, Bool, true, false, List}
use Rattle.decode80.specs.declared.{fetching.Fetched.Fetched, flow.Flow.Flow}
use Rattle.decode80.specs.Facts.{flow}
use Rattle.image80.specs.{Image.Located, Regions.Areas}
use Rattle.verify80.specs.Boards.{GoesBy, HasAt, sets_sp, uses_sp}
use Rattle.verify80_states.specs.Marks.{is_marked}

-- each address to which an instruction leads is marked
abbrev pub LeadsToMarked : Areas → List Bool → (at : ℕ) → Flow → (next : ℕ) → Type 0
LeadsToMarked regions marks at way next = (to : ℕ) → GoesBy regions at way next to → is_marked marks to ≡ true

-- the instruction at an address doesn't use SP, and sets it or leads to marked addresses alone
pub record IsClosedAt (image : Located) (marks : List Bool) (at : ℕ) : Type 0 where
  pub free : (found : Fetched) → HasAt image at found → uses_sp found.instr ≡ false
  pub leads : (found : Fetched) → HasAt image at found → sets_sp found.instr ≡ false →
      LeadsToMarked image.regions marks at (flow found.instr) found.next

-- each marked address below a limit is closed
abbrev pub AreClosed : Located → List Bool → (limit : ℕ) → Type 0
AreClosed image marks limit = (at : ℕ) → at < limit → is_marked marks at ≡ true → IsClosedAt image marks at
