use Rattle.std.proofs.Common.{refl, rules, sym, ◌∙◌}
use Rattle.verify80_cases.specs.Suggested.IsBegun.{looks_up}
use Rattle.verify80_cases.proofs.keys.run_of_table.Goals as goal

pub returns-clause-begun : goal.returns-clause-begun
returns-clause-begun c = looks_up c.args.table.order c.last_key.result refl
    (record {
      lxi = c.args.table.lxi;
      leads = c.leads_to.ensures (search rules);
      loaded = sym c.loaded_word.ensures ∙ c.in_ok-first.was;
      is_tested = c.last_key.ensures;
      is_count = c.limit_of.ensures.is;
    })
