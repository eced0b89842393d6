-- What is known of the worlds of a board. (This project's own.)
use Rattle.std.specs.Prelude.{◌||◌, ℕ, Bool}
use Rattle.std.proofs.Common.{subst, sym}
use Rattle.image80.specs.Image.{Located}
use Rattle.machine80.specs.{Step.Machine, World.World, Run.world_of}
use Rattle.verify80.specs.Boards.{Disturbs, Executes, respected_pointer, sets_sp}
use Rattle.verify80_states.specs.QuietBoards.{OnQuietBoard, StaysQuiet, begins, disturbed, executed}

-- What is known of each world of a board, by whatever means: of the first one, of one that devices have disturbed, and of one after an instruction;
-- and what it says of a world. A table of states that follows a program is one such knowledge.
pub record Invariant (image : Located) (quiet : ℕ → Bool) (listed : ℕ → Type 0) (start : Machine) (began : Bool) (Knows : (set : Bool) → World → Type 0) (Keeps : World → Type 0) : Type 0 where
  pub begun : Knows began (world_of start)
  pub disturbs : (set : Bool) (w v : World) → Knows set w → (by : Disturbs image.regions (respected_pointer image.regions set w) w v) →
      StaysQuiet quiet w.machine.memory by.memory → Knows set v
  pub executes : (before : Bool) (w v : World) → Knows before w → (by : Executes image.regions listed w v) → Knows (before || sets_sp by.found.instr) v
  pub keeps : (set : Bool) (w : World) → Knows set w → Keeps w

-- an invariant holds of each world of a board, and so does what it says
module _ (image : Located) (quiet : ℕ → Bool) (listed : ℕ → Type 0) (start : Machine) (began : Bool) (Knows : (set : Bool) → World → Type 0) (Keeps : World → Type 0) (i : Invariant image quiet listed start began Knows Keeps) where
  knows : (set : Bool) (w : World) → OnQuietBoard image.regions quiet listed start began set w → Knows set w
  knows set w (begins _ _ is same) = subst (λ (v : World). Knows set v) (sym is) (subst (λ (b : Bool). Knows b (world_of start)) (sym same) i.begun)
  knows set w (disturbed _ u _ on by stays) = i.disturbs set u w (knows set u on) by stays
  knows set w (executed before _ u _ on by is) = subst (λ (b : Bool). Knows b w) (sym is) (i.executes before u w (knows before u on) by)

  pub invariant_is_kept : (w : World) (set : Bool) → OnQuietBoard image.regions quiet listed start began set w → Keeps w
  invariant_is_kept w set on = i.keeps set w (knows set w on)
