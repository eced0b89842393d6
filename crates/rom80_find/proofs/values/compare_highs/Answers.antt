use Rattle.std.proofs.Common.{◌≡◌, ◌==◌, ◌&&◌, ◌∙◌, ap, arith, length-set, slice_index_or}
use Rattle.rom80_find.specs.Blocks.{high_sum}
use Rattle.rom80_find.proofs.TableLemmas.{done_more, rest_more}
use Rattle.rom80_find.proofs.values.compare_highs.Goals as goal

pub loop-at-preserved : goal.loop-at-preserved
loop-at-preserved c =
    let now = c.loop-at.invariant in
    let wrong = c.loop-at.wrong in
    let at = c.loop-at.at in
    let sum = high_sum (slice_index_or c.args.highs.now at 0) (slice_index_or c.args.lows.now at 0) c.args.addend in
    record {
      whole = length-set wrong at c.marked.result ∙ now.whole;
      done = done_more
          (λ k v. (v == 0) ≡ (slice_index_or c.args.wrong.now k 0 == 0 && high_sum (slice_index_or c.args.highs.now k 0) (slice_index_or c.args.lows.now k 0) c.args.addend == slice_index_or c.args.found.now k 0))
          wrong at c.marked.result (omega (arith, c.loop-at-test.true, now.whole))
          (c.marked.ensures ∙ (ap (λ n. slice_index_or wrong at 0 == 0 && n == slice_index_or c.args.found.now at 0) c.high_sum.ensures
          ∙ ap (λ n. n == 0 && sum == slice_index_or c.args.found.now at 0) (now.rest at (omega arith)))) now.done;
      rest = rest_more c.args.wrong.now wrong at c.marked.result now.rest;
    }
