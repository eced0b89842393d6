-- the cases so far fit
use Rattle.std.specs.Prelude.{All, take}
use Rattle.image80.specs.Regions.{in_code}
use Rattle.verify80_suggest.specs.Known.{FitsCase}
use Rattle.verify80_suggest.proofs.known.unfit_case.Given as goal

abbrev pub invariant-loop-case : goal.invariant-loop-case
invariant-loop-case l = All (FitsCase (in_code l.code.regions) l.code) (take l.case-index l.cases)
