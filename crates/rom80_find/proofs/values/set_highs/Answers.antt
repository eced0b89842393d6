use Rattle.std.proofs.Common.{◌≡◌, ◌∙◌, ap, arith, length-set, slice_index_or}
use Rattle.rom80_find.specs.Blocks.{high_sum, less}
use Rattle.rom80_find.proofs.TableLemmas.{done_more}
use Rattle.rom80_find.proofs.values.set_highs.Goals as goal

pub loop-at-preserved : goal.loop-at-preserved
loop-at-preserved c =
    let now = c.loop-at.invariant in
    let highs = c.loop-at.highs in
    let at = c.loop-at.at in
    record {
      whole = length-set highs at c.less.result ∙ now.whole;
      done = done_more (λ k v. v ≡ less (slice_index_or c.args.found.now k 0) (high_sum 0 (slice_index_or c.args.lows.now k 0) c.args.addend)) highs at c.less.result
          (omega (arith, c.loop-at-test.true, now.whole)) (c.less.ensures ∙ ap (λ n. less (slice_index_or c.args.found.now at 0) n) c.high_sum.ensures) now.done;
    }
