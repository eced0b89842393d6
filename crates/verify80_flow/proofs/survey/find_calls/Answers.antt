use Rattle.verify80_flow.proofs.SurveyLemmas.{survey_noted}
use Rattle.verify80_flow.proofs.survey.find_calls.Goals as goal

pub loop-point-preserved : goal.loop-point-preserved
loop-point-preserved g c =
    rw (c.in_ok-note.ensures.depths, c.in_ok-note.ensures.calls)
    (record {
      survey = survey_noted (g.C.Code.code c.args.program.now) c.args.table.now.known c.args.wants.now c.loop-point.point c.loop-point.graph.depths.items c.loop-point.graph.calls.items
          c.in_ok-depth.depth c.in_ok-depth.call c.in_ok-depth.ensures.seen c.loop-point.invariant.survey;
    })
