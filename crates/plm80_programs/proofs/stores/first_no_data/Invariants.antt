-- the ranges so far are data
use Rattle.plm80_programs.proofs.Names.{All, take}
use Rattle.plm80_programs.specs.Printed.{IsAllData}
use Rattle.plm80_programs.proofs.stores.first_no_data.Given as goal

abbrev pub invariant-loop-range : goal.invariant-loop-range
invariant-loop-range l = All (IsAllData l.regions) (take l.range-index l.quiet)
