use Rattle.std.specs.Prelude.{◌≡◌, ◌≢◌, ◌<◌, ℕ, slice_get, Some}
use Rattle.plm80_console.specs.ApartPaths.{IsApartFrom}
use Rattle.plm80_console.specs.declared.{comparison.Comparison.TheVariants.Letters, syntax.Argument.Argument}
use Rattle.plm80_console.proofs.syntax.Syntax.path_shared_by.Given as goal

-- the arguments so far are apart from the one that writes the file
abbrev pub invariant-loop-other : goal.invariant-loop-other
invariant-loop-other g l =
    l.comparison ≡ Letters → (place : ℕ) → place < l.other → (other : Argument) → slice_get l.self.arguments.now place ≡ Some other
    → place ≢ l.index → IsApartFrom l.matches l.written l.path other
