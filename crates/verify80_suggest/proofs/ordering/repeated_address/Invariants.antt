-- the cases so far are by address, all below the limit, which is right above the last one
use Rattle.std.specs.Prelude.{◌≡◌, ◌<◌, ◌+◌, ◌-◌, All, get_or, take}
use Rattle.image80.specs.Case.{AreByAddress, DeclaredCase}
use Rattle.verify80_suggest.proofs.ordering.repeated_address.Given as goal

abbrev pub invariant-loop-case : goal.invariant-loop-case
invariant-loop-case l = record {
  by_address : AreByAddress (take l.case-index l.cases);
  below : All (λ case. case.at < l.limit) (take l.case-index l.cases);
  start : l.case-index ≡ 0 → l.limit ≡ 0;
  last : (d : DeclaredCase) → 0 < l.case-index → l.limit ≡ (get_or l.cases (l.case-index - 1) d).at + 1;
}
