use Rattle.std.proofs.Common.{◌<◌, [], ◌∷◌, arith, get_or, length, subst, sym}
use Rattle.std.specs.Prelude.{take}
use Rattle.std.proofs.lemmas.List.{take_more}
use Rattle.verify80_suggest.specs.Names.{Marks}
use Rattle.verify80_suggest.proofs.NameLemmas.{marks_both}
use Rattle.verify80_suggest.proofs.tables.mark_all.Goals as goal

pub loop-address-preserved : goal.loop-address-preserved
loop-address-preserved c =
    let old = c.args.marks.now.items in
    let mid = c.loop-address.marks.items in
    let new = c.mark_given.new.named.items in
    let addresses = c.args.addresses.now in
    let k = c.loop-address.address-index in
    let less : k < length addresses = omega (arith, c.loop-address-test.true) in
    record {
      marks = subst (λ l. Marks old l new) (sym (take_more addresses k 0 less))
          (marks_both old mid new (take k addresses) (get_or addresses k 0 ∷ []) c.loop-address.invariant.marks c.mark_given.ensures);
    }
