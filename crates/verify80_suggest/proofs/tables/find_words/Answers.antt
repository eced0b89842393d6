use Rattle.std.proofs.Common.{◌+◌, ◌∙◌, ap, arith, subst, sym}
use Rattle.verify80_cases.specs.Marks.{marked}
use Rattle.verify80_suggest.specs.Tables.{AreWordsBelow, is_word, may_be_word}
use Rattle.verify80_suggest.proofs.TableLemmas.{entries_more}
use Rattle.verify80_suggest.proofs.tables.find_words.Goals as goal

pub loop-address-preserved : goal.loop-address-preserved
loop-address-preserved c =
    let image = c.args.code.now in
    let covered = c.args.covered.now in
    let loaded = c.args.loaded.now in
    let goals = c.args.goals.now in
    let at = c.loop-address.address in
    let words = c.loop-address.words.items in
    record {
      words = subst (AreWordsBelow image covered loaded goals (at + 1)) (sym c.in_ok-push.ensures.items)
          (entries_more 2 (marked loaded) (may_be_word image covered goals) at words c.is_word-is_word.result (omega arith) c.loop-address.invariant.words
          (c.is_word-is_word.ensures ∙ ap (λ ws. is_word image covered loaded goals ws at) c.deref.ensures.value));
    }
