use Rattle.verify80_cases.specs.Standing.{StandsBefore}
use Rattle.verify80_cases.proofs.leading.stands_before.Given as goal

abbrev pub invariant-loop : goal.invariant-loop
invariant-loop l = record {
  stands : StandsBefore l.code l.reached l.place l.next;
}
