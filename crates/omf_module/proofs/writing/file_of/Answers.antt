use Rattle.std.proofs.Common.{arith, ◌≡◌, ◌+◌, List, take, subst, sym}
use Rattle.std.specs.List.{flat_map, AllByRecursion}
use Rattle.std.proofs.lemmas.List.{drop_all}
use Rattle.std.proofs.lemmas.Grind.{common_steps}
use Rattle.omf_model.specs.Modules.{ModuleValue}
use Rattle.omf_model.specs.Rules.{IsModule}
use Rattle.omf_module.specs.Writing.{module_bytes}
use Rattle.omf_module.proofs.ListLemmas.{first_left}
use Rattle.omf_module.proofs.writing.file_of.Goals as goal

pub loop-module-preserved : goal.loop-module-preserved
loop-module-preserved c =
    let written : c.append_module.new.out.items ≡ flat_map module_bytes (take (c.loop-module.module-index + 1) c.args.modules.now) =
    grind (arith, common_steps, c.loop-module.invariant.written, c.in_ok-append_module.ensures.written, c.module-item.is) in record {
      written = written;
      rules = λ rest. c.loop-module.invariant.rules
          (subst (λ (l : List ModuleValue). AllByRecursion IsModule l)
          (sym (first_left c.args.modules.now c.loop-module.module-index c.module-item.result c.loop-module-test.true
          c.module-item.is))
          (c.in_ok-append_module.ensures.rules, rest));
    }

pub returns-clause-rules : goal.returns-clause-rules
returns-clause-rules c =
    c.loop-module.invariant.rules
    (subst (λ (l : List ModuleValue). AllByRecursion IsModule l)
    (sym (drop_all c.loop-module.module-index c.args.modules.now c.loop-module-test.false)) tt)
