use Rattle.std.proofs.Common.{◌≡◌, ◌∙◌, arith, length-set, refl}
use Rattle.rom80_find.proofs.TableLemmas.{done_more}
use Rattle.rom80_find.proofs.values.clear.Goals as goal

pub loop-at-preserved : goal.loop-at-preserved
loop-at-preserved c =
    let now = c.loop-at.invariant in
    record {
      whole = length-set c.loop-at.bytes c.loop-at.at 0 ∙ now.whole;
      done = done_more (λ k v. v ≡ 0) c.loop-at.bytes c.loop-at.at 0 (omega (arith, c.loop-at-test.true, now.whole)) refl now.done;
    }
