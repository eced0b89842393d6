use Rattle.std.proofs.Common.{◌+◌, ◌∙◌, ap, arith, subst, sym}
use Rattle.verify80_suggest.specs.Tables.{AreKeyedBelow, begins_keyed, is_keyed, may_be_keyed}
use Rattle.verify80_suggest.proofs.TableLemmas.{entries_more}
use Rattle.verify80_suggest.proofs.keyed.find_keyed.Goals as goal

pub loop-address-preserved : goal.loop-address-preserved
loop-address-preserved c =
    let image = c.args.code.now in
    let order = c.args.order in
    let covered = c.args.covered.now in
    let loaded = c.args.loaded.now in
    let goals = c.args.goals.now in
    let at = c.loop-address.address in
    let marks = c.loop-address.marks.items in
    record {
      marks = subst (AreKeyedBelow image order covered loaded goals (at + 1)) (sym c.in_ok-push.ensures.items)
          (entries_more 3 (begins_keyed image order covered loaded goals) (may_be_keyed image order covered goals) at marks c.is_keyed-is_keyed.result (omega arith)
          c.loop-address.invariant.marks (c.is_keyed-is_keyed.ensures ∙ ap (λ ms. is_keyed image order covered loaded goals ms at) c.deref.ensures.value));
    }
