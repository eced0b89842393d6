-- the copies so far
use Rattle.std.specs.Prelude.{◌≡◌, ◌++◌, take}
use Rattle.verify80_suggest.proofs.ordering.add_copies.Given as goal

abbrev pub invariant-loop-case : goal.invariant-loop-case
invariant-loop-case l = record {
  copied : l.all.items ≡ l.fn.all.items ++ take l.case-index l.cases;
}
