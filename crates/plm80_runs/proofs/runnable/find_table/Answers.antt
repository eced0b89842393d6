use Rattle.plm80_runs.proofs.runnable.find_table.Goals as goal

pub returns-then-branch-clause-runs : goal.returns-then-branch-clause-runs
returns-then-branch-clause-runs c = c.runs_of_followed.ensures c.in-Found.table (c.in_ok-follows-in-Found.ensures.promise c.if-branch.true)
