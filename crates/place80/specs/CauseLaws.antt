-- The lines of segments that don't fit are those of the very segments that the fault names. (This project's own.)
use Rattle.std.specs.Prelude.{◌≡◌, ℕ, ◌⊎◌, true, Some, ◌++◌, Contains}
use Rattle.omf_model.specs.Modules.{ModuleValue}
use Rattle.place80.specs.declared.options.Options.{Options}
use Rattle.place80.specs.declared.placed_segments.Placed.{Placed}
use Rattle.place80.specs.declared.place_fault.PlaceFault.{PlaceFault}
use Rattle.place80.specs.declared.place_fault.PlaceFault.TheVariants.{OutsideMemory, Overlap}
use Rattle.place80.specs.Layout.{layout_of}
use Rattle.place80.specs.PlaceFault.{all_pairs, is_outside, overlaps, locate_fault}
use Rattle.place80.specs.Restart.{restart_pairs, restart_fault}
use Rattle.place80.specs.Causes.{cause_text, placed_line}

-- LOCATE reports the fault, without a restart or with one
abbrev pub IsReported : Options → ModuleValue → PlaceFault → Type 0
IsReported options m fault = (locate_fault options m ≡ Some fault) ⊎ (restart_fault options m ≡ Some fault)

-- a segment of the program with the id, which is outside memory, and its line
pub record ShowsOutside (options : Options) (m : ModuleValue) (id : ℕ) : Type 0 where
  pub placed : Placed
  pub among : Contains (layout_of options m) placed
  pub outside : is_outside m.contents placed ≡ true
  pub id_is : placed.id ≡ id
  pub text_is : cause_text options m (OutsideMemory id) ≡ placed_line m.commons placed

abbrev pub OutsideIsShown : Type 0
OutsideIsShown = (options : Options) (m : ModuleValue) (id : ℕ) → IsReported options m (OutsideMemory id) → ShowsOutside options m id

-- two with the ids, which share an address: segments of the program, absolute contents, or the restart; and their lines
pub record ShowsOverlap (options : Options) (m : ModuleValue) (first second : ℕ) : Type 0 where
  pub place : Placed
  pub other : Placed
  pub among : Contains (all_pairs m (layout_of options m) ++ restart_pairs m (layout_of options m)) (place, other)
  pub overlap : overlaps place other ≡ true
  pub first_is : place.id ≡ first
  pub second_is : other.id ≡ second
  pub text_is : cause_text options m (Overlap first second) ≡ placed_line m.commons place ++ placed_line m.commons other

abbrev pub OverlapIsShown : Type 0
OverlapIsShown = (options : Options) (m : ModuleValue) (first second : ℕ) → IsReported options m (Overlap first second)
    → ShowsOverlap options m first second
