-- What a write took stands behind what the earlier ones took.
use Rattle.std.proofs.Common.{◌-◌, ◌≤◌, length, arith, length-drop, length-take}
use Rattle.stream80.proofs.StreamLemmas.{Appends-next, write_failures-some}
use Rattle.stream80.specs.declared.stream.Failed.{Failed}
use Rattle.stream80.proofs.whole.write_all.Goals as goal

pub loop-at-preserved : goal.loop-at-preserved
loop-at-preserved g c =
    let within : c.in_ok-count.count ≤ length c.args.bytes.now - c.loop-at.at =
    let bound = c.in_ok-count.ensures.bound in
    omega (arith, simp (length-take, length-drop) at bound) in
    let unfailed = write_failures-some Failed c.in_ok-count.count c.if-count-eq0.false in
    record {
      in_range = omega arith;
      unfailed = omega (arith, c.in_ok-count.ensures.count, unfailed);
      front = Appends-next _ _ _ c.args.bytes.now c.loop-at.at c.in_ok-count.count within c.loop-at.invariant.front c.in_ok-count.ensures.bytes;
    }
