use Rattle.plm80_runs.proofs.Names.{IfOk-weaker, subst, sym}
use Rattle.loader80_trace.specs.Cover.{CoversReached}
use Rattle.plm80_runs.specs.OnBoards.{CoversProgram}
use Rattle.plm80_runs.specs.declared.runnable.Runnable.{Runnable}
use Rattle.plm80_runs.proofs.board_cover.code_with_counts.Goals as goal

pub returns-in-Accepted : goal.returns-in-Accepted
returns-in-Accepted c =
    let counts = c.args.counts.now in
    IfOk-weaker c.cover.result (λ text. CoversReached c.in-Accepted.vouched.image counts text.items)
    (λ text. CoversProgram c.args.program.now counts text.items)
    (λ text covers.
    subst (λ (program : Runnable). CoversProgram program counts text.items) (sym c.in-Accepted.is)
    (record { reached = covers.table; are_reachable = covers.reached; lines = covers.lines }))
    c.cover.ensures
