use Rattle.verify80_cases.proofs.TrailLemmas.{IsTrail}
use Rattle.verify80_cases.proofs.before.trail_to.Given as goal

abbrev pub invariant-loop : goal.invariant-loop
invariant-loop l = record {
  trail : IsTrail l.code l.reached l.place l.trail;
}
