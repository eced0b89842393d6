-- The ends of the parts of CODE and DATA of some modules.
use Rattle.std.specs.Prelude.{◌≡◌, ℕ, ◌*◌, ◌≤◌, List}
use Rattle.omf_model.specs.Modules.{ModuleValue}
use Rattle.link80.specs.Linked.{parts_end}
use Rattle.link80_text.specs.declared.causes.starts.PartEnds.{PartEnds}

pub record AreEnds (before : List ModuleValue) (ends : PartEnds) : Type 0 where
  pub code : ends.code ≡ parts_end 1 0 before
  pub variables : ends.variables ≡ parts_end 2 0 before

-- they aren't far
pub record AreNear (number : ℕ) (ends : PartEnds) : Type 0 where
  pub code : ends.code ≤ 65790 * number
  pub variables : ends.variables ≤ 65790 * number
