use Rattle.std.proofs.Common.{◌≡◌, false, take}
use Rattle.std.specs.List.{list_any}
use Rattle.plm80_console.specs.{ApartPaths.stands_behind, declared.comparison.Comparison.TheVariants.Letters}
use Rattle.plm80_console.proofs.shared_paths.is_behind.Given as goal

-- the path is that of none of those so far
abbrev pub invariant-loop-value : goal.invariant-loop-value
invariant-loop-value g l =
    l.comparison ≡ Letters → list_any (λ value. stands_behind value.now l.path) (take l.value-index l.values) ≡ false
