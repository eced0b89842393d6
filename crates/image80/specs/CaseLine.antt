-- The line of a case in a regions text.
use Rattle.std.specs.Prelude.{◌<◌, length, All}
use Rattle.image80.specs.Case.{DeclaredCase}

-- the rule of a line's address and targets: all are words, and there is at least one target; the targets may come in any
-- order, and more than once
pub record IsCaseLine (case : DeclaredCase) : Type 0 where
  pub word : case.at < 65536
  pub some : 0 < length case.targets
  pub words : All (λ target. target < 65536) case.targets
