use Rattle.verify80_flow.specs.Survey.{IsSurvey}
use Rattle.verify80_flow.proofs.survey.find_calls.Given as goal

abbrev pub invariant-loop-point : goal.invariant-loop-point
invariant-loop-point g l = record { survey : IsSurvey (g.C.Code.code l.program) l.table.known l.wants l.point l.graph.depths.items l.graph.calls.items }
