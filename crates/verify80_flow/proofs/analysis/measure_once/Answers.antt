use Rattle.std.proofs.Common.{ap, ◌∙◌, is_some}
use Rattle.verify80_flow.proofs.RefusedLemmas.{nothing_is, answers_of}
use Rattle.verify80_flow.proofs.analysis.measure_once.Goals as goal

pub fill_and_report-requires : goal.fill_and_report-requires
fill_and_report-requires g c = nothing_is c.in_ok-table.table.known c.args.forgets c.in_ok-table.ensures

pub returns-clause-refused : goal.returns-clause-refused
returns-clause-refused g c = answers_of (g.C.Code.code c.args.program.now) c.in_ok-table.table.known c.args.forgets c.fill_and_report.result c.in_ok-table.ensures c.fill_and_report.ensures.refused

pub returns-clause-whole : goal.returns-clause-whole
returns-clause-whole g c = λ e. c.fill_and_report.ensures.whole (c.is_some.ensures ∙ ap is_some e)
