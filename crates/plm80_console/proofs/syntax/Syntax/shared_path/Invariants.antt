use Rattle.std.specs.Prelude.{◌≡◌, ◌<◌, ℕ}
use Rattle.plm80_console.specs.{ApartPaths.IsApart, declared.comparison.Comparison.TheVariants.Letters}
use Rattle.plm80_console.proofs.syntax.Syntax.shared_path.Given as goal

-- the arguments so far are apart from all others
abbrev pub invariant-loop-index : goal.invariant-loop-index
invariant-loop-index g l =
    l.comparison ≡ Letters → (index : ℕ) → index < l.index → IsApart l.matches l.self.arguments.now index
