use Rattle.std.proofs.Common.{◌≡◌, false, take, bytes_eq}
use Rattle.std.specs.List.{list_any}
use Rattle.plm80_console.specs.declared.comparison.Comparison.TheVariants.{Letters}
use Rattle.plm80_console.proofs.shared_paths.is_among.Given as goal

-- the path is none of those so far
abbrev pub invariant-loop-own : goal.invariant-loop-own
invariant-loop-own g l = l.comparison ≡ Letters → list_any (λ own. bytes_eq own.now l.path) (take l.own-index l.paths) ≡ false
