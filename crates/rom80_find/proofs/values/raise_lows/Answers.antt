use Rattle.std.proofs.Common.{◌≡◌, ◌∙◌, ap, arith, max, length-set, slice_index_or}
use Rattle.rom80_find.specs.Blocks.{low_needed}
use Rattle.rom80_find.proofs.TableLemmas.{done_more, rest_more}
use Rattle.rom80_find.proofs.values.raise_lows.Goals as goal

pub loop-at-preserved : goal.loop-at-preserved
loop-at-preserved c =
    let now = c.loop-at.invariant in
    let lows = c.loop-at.lows in
    let at = c.loop-at.at in
    let needed = low_needed (slice_index_or c.args.highs.now at 0) c.args.addend (slice_index_or c.args.found.now at 0) in
    record {
      whole = length-set lows at c.greater.result ∙ now.whole;
      done = done_more (λ k v. v ≡ max (slice_index_or c.args.lows.now k 0) (low_needed (slice_index_or c.args.highs.now k 0) c.args.addend (slice_index_or c.args.found.now k 0)))
          lows at c.greater.result (omega (arith, c.loop-at-test.true, now.whole))
          (c.greater.ensures ∙ (ap (λ n. max (slice_index_or lows at 0) n) c.low_needed.ensures ∙ ap (λ n. max n needed) (now.rest at (omega arith)))) now.done;
      rest = rest_more c.args.lows.now lows at c.greater.result now.rest;
    }
