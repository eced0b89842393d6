use Rattle.std.proofs.Common.{◌≡◌, ◌%◌, ◌∙◌, arith, length-set, slice_index_or}
use Rattle.rom80_find.specs.Blocks.{less}
use Rattle.rom80_find.proofs.TableLemmas.{done_more}
use Rattle.rom80_find.proofs.values.set_lows.Goals as goal

pub loop-at-preserved : goal.loop-at-preserved
loop-at-preserved c =
    let now = c.loop-at.invariant in
    let lows = c.loop-at.lows in
    let at = c.loop-at.at in
    record {
      whole = length-set lows at c.less.result ∙ now.whole;
      done = done_more (λ k v. v ≡ less (slice_index_or c.args.found.now k 0) (c.args.addend % 256)) lows at c.less.result
          (omega (arith, c.loop-at-test.true, now.whole)) c.less.ensures now.done;
    }
