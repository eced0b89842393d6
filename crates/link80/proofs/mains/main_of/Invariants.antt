use Rattle.std.proofs.Common.{◌≡◌, drop}
use Rattle.std.specs.List.{cons_option}
use Rattle.link80.specs.Gathered.{mains_from}
use Rattle.link80.proofs.mains.main_of.Given as goal

-- the main program so far, and those of the modules that are left
abbrev pub invariant-loop-number : goal.invariant-loop-number
invariant-loop-number l = cons_option l.main (mains_from l.number (drop l.number l.modules)) ≡ mains_from 0 l.modules
