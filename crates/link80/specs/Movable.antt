-- What LINK asks of a content before it moves it: what its module's rules and the lengths of the linked segments give.
use Rattle.std.specs.Prelude.{◌≡◌, ◌≤◌, ◌<◌, ◌⊎◌, ℕ, ◌+◌, List, length}
use Rattle.std.specs.List.{AllByRecursion}
use Rattle.omf_model.specs.Contents.{ContentValue}
use Rattle.omf_model.specs.Modules.{ModuleValue}
use Rattle.omf_model.specs.Place.{part_start}
use Rattle.omf_model.specs.SoundModules.{HasItsFixups}

-- its offsets stay words: its part starts where its segment does, or ends at a word; and its fixups keep their rules
pub record CanBeMoved (modules : List ModuleValue) (number : ℕ) (m : ModuleValue) (c : ContentValue) : Type 0 where
  pub fits : (part_start modules number c.segment ≡ 0) ⊎ (part_start modules number c.segment + c.offset + length c.bytes ≤ 65535)
  pub fixups : HasItsFixups m c
  pub ends : AllByRecursion (λ f. f.offset < c.offset + length c.bytes) c.fixups
