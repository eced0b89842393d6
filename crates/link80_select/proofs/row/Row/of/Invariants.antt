-- the modules put into the row so far, and those of the libraries that are left
use Rattle.std.proofs.Common.{◌≡◌, ◌++◌, map, drop}
use Rattle.link80_select.specs.Selecting.{members}
use Rattle.link80_select.proofs.row.Row.of.Given as goal

abbrev pub invariant-loop-library : goal.invariant-loop-library
invariant-loop-library l =
    map (λ m. m.now) l.modules.items ++ members (drop l.library-index l.libraries) ≡ l.roots ++ members l.libraries
