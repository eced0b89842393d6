use Rattle.std.proofs.Common.{arith, ap, ◌∙◌, Vec, Global}
use Rattle.rom80.specs.declared.comparing.Difference.{Difference}
use Rattle.rom80.proofs.CompareLemmas.{same_steps, differ_steps, all_differences, all_within}
use Rattle.rom80.proofs.comparing.differences.Goals as goal
use Rattle.rom80.proofs.comparing.differences.Goals.{then-bytes-at+in_ok-push_run, else-bytes-at}

pub loop-at-preserved : goal.loop-at-preserved
loop-at-preserved c = elim c.if-bytes-at.branch [
  | then-bytes-at+in_ok-push_run w ↦ same_steps c.args.bytes.now c.args.dump.now c.args.first c.loop-at.at c.loop-at.run _ _ c.loop-at.ranges.items _ c.loop-at.invariant w.if-bytes-at.true (ap (λ (v : Vec Difference Global). v.items) w.ranges-is ∙ w.in_ok-push_run.ensures) (omega arith) w.run-is
  | else-bytes-at w ↦ differ_steps c.args.bytes.now c.args.dump.now c.args.first c.loop-at.at c.loop-at.run _ c.loop-at.ranges.items _ c.loop-at.invariant w.if-bytes-at.false (ap (λ (v : Vec Difference Global). v.items) w.ranges-is) w.run-is
]

pub returns-clause-ranges : goal.returns-clause-ranges
returns-clause-ranges c = all_differences c.args.bytes.now c.args.dump.now c.args.first c.loop-at.at c.loop-at.run _ c.loop-at.ranges.items _ c.loop-at.invariant (omega arith) c.in_ok-push_run-2.ensures (omega arith)

pub returns-clause-within : goal.returns-clause-within
returns-clause-within c = all_within c.args.bytes.now c.args.dump.now c.args.first c.loop-at.at c.loop-at.run _ c.loop-at.ranges.items _ c.loop-at.invariant (omega arith) c.in_ok-push_run-2.ensures (omega arith)
