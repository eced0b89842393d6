use Rattle.std.proofs.Common.{◌≡◌, ◌+◌, ◌%◌, ◌/◌, ◌∙◌, arith, length-set, refl}
use Rattle.rom80_find.proofs.TableLemmas.{done_more}
use Rattle.rom80_find.proofs.values.set_addresses.Goals as goal

pub loop-at-preserved : goal.loop-at-preserved
loop-at-preserved c =
    let now = c.loop-at.invariant in
    let at = c.loop-at.at in
    let low = (c.args.first + at) % 256 in
    let high = (c.args.first + at) / 256 in
    record {
      low = length-set c.loop-at.lows at low ∙ now.low;
      high = length-set c.loop-at.highs at high ∙ now.high;
      lows = done_more (λ k v. v ≡ (c.args.first + k) % 256) c.loop-at.lows at low (omega (arith, c.loop-at-test.true, now.low)) refl now.lows;
      highs = done_more (λ k v. v ≡ (c.args.first + k) / 256) c.loop-at.highs at high (omega (arith, c.loop-at-test.true, now.high)) refl now.highs;
    }
