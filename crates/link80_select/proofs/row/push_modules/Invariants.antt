-- the modules put into the row so far, and those that are left
use Rattle.std.proofs.Common.{◌≡◌, ◌++◌, map, drop}
use Rattle.link80_select.proofs.row.push_modules.Given as goal

abbrev pub invariant-loop-source : goal.invariant-loop-source
invariant-loop-source l =
    map (λ m. m.now) l.row.items ++ drop l.source-index l.modules ≡ map (λ m. m.now) l.initial.row.items ++ l.modules
