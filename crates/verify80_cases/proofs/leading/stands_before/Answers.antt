use Rattle.verify80_cases.specs.Standing.StandsBefore.{last, earlier}
use Rattle.verify80_cases.proofs.leading.stands_before.Goals as goal

pub loop-init : goal.loop-init
loop-init c = record { stands = last c.in-Some.first.next c.in-Some.ensures }

pub loop-preserved : goal.loop-preserved
loop-preserved c = record { stands = earlier c.loop.next c.in-Some-passed_at.passed.next c.loop.invariant.stands c.in-Some-passed_at.ensures }
