-- the addresses so far
use Rattle.std.specs.Prelude.{◌≡◌, ◌++◌, map, take}
use Rattle.plm80_regions.proofs.suggest.add_addresses.Given as goal

abbrev pub invariant-loop-case : goal.invariant-loop-case
invariant-loop-case l = record {
  added : l.entries.items ≡ l.fn.entries.items ++ map (λ case. case.at) (take l.case-index l.cases);
}
