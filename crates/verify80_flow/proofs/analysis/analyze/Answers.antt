use Rattle.std.proofs.Common.{◌<◌, ◌≤◌, arith}
use Rattle.verify80_flow.proofs.MeasureLemmas.{overruns, accepted}
use Rattle.verify80_flow.proofs.analysis.analyze.Goals as goal

pub returns-then-needed-from-clause-refused : goal.returns-then-needed-from-clause-refused
returns-then-needed-from-clause-refused g c =
    let code = g.C.Code.code c.args.program.now in
    let report = c.in_ok-found.found.report in
    let less : code.stack < report.stack_bytes = omega (arith, c.if-needed-from.true, c.from.ensures, c.stack-stack.ensures) in
    rw c.stack-stack.ensures (overruns code report.procedures.items report.stack_bytes c.in_ok-found.ensures.measured less)

pub returns-clause-accepted : goal.returns-clause-accepted
returns-clause-accepted g c =
    let code = g.C.Code.code c.args.program.now in
    let report = c.in_ok-found.found.report in
    let enough : report.stack_bytes ≤ code.stack = omega (arith, c.if-needed-from.false, c.from.ensures, c.stack-stack.ensures) in
    accepted code report.procedures.items report.stack_bytes c.in_ok-found.ensures.measured enough
