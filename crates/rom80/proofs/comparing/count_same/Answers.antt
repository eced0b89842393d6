use Rattle.std.proofs.Common.{arith}
use Rattle.rom80.proofs.CompareLemmas.{count_more, count_no_more}
use Rattle.rom80.proofs.comparing.count_same.Goals as goal
use Rattle.rom80.proofs.comparing.count_same.Goals.{then-bytes-at, else-bytes-at}

pub loop-at-preserved : goal.loop-at-preserved
loop-at-preserved c = elim c.if-bytes-at.branch [
  | then-bytes-at w ↦ record {
    bound = omega (arith, c.loop-at.invariant.bound, w.same-is);
    count = count_more c.args.bytes.now c.args.dump.now c.loop-at.at c.loop-at.same _ c.loop-at.invariant.count w.if-bytes-at.true w.same-is;
  }
  | else-bytes-at w ↦ record {
    bound = omega (arith, c.loop-at.invariant.bound, w.same-is);
    count = count_no_more c.args.bytes.now c.args.dump.now c.loop-at.at c.loop-at.same _ c.loop-at.invariant.count w.if-bytes-at.false w.same-is;
  }
]
