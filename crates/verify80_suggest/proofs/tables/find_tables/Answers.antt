use Rattle.std.proofs.Common.{rules, subst}
use Rattle.verify80_cases.specs.declared.table.KeyOrder.TheVariants.{KeyFirst, KeyLast}
use Rattle.verify80_suggest.specs.Tables.{AreKeyedBelow}
use Rattle.verify80_suggest.proofs.tables.find_tables.Goals as goal

pub returns : goal.returns
returns c =
    let code = c.args.code.now in
    let covered = c.args.covered.now in
    let goals = c.in_ok-goals.goals.items in
    let firsts = c.in_ok-firsts.firsts.items in
    let lasts = c.in_ok-lasts.lasts.items in
    record {
      loaded = c.in_ok-loaded.loaded.items;
      are_loaded = c.in_ok-loaded.ensures;
      goals = goals;
      are_goals = c.in_ok-goals.ensures;
      words = c.in_ok-words.words.items;
      are_words = search rules;
      firsts = firsts;
      are_firsts = subst (λ l. AreKeyedBelow code KeyFirst covered l goals 65536 firsts) c.deref-3.ensures.value
          (subst (λ g. AreKeyedBelow code KeyFirst covered c.deref-3.result.now g 65536 firsts) c.deref-4.ensures.value c.in_ok-firsts.ensures);
      lasts = lasts;
      are_lasts = subst (λ l. AreKeyedBelow code KeyLast covered l goals 65536 lasts) c.deref-5.ensures.value
          (subst (λ g. AreKeyedBelow code KeyLast covered c.deref-5.result.now g 65536 lasts) c.deref-6.ensures.value c.in_ok-lasts.ensures);
      are_tables = search rules;
    }
