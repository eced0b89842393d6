use Rattle.std.specs.Prelude.{◌≤◌, ◌+◌, ℕ, List, drop, filter, is_none, length}
use Rattle.std.specs.List.{flat_map}
use Rattle.std.proofs.Common.{◌∙◌, ap, sym, arith}
use Rattle.std.proofs.lemmas.List.{at_drop_all}
use Rattle.omf_model.specs.Modules.{ModuleValue}
use Rattle.link80.specs.FirstSight.{number_in, with_names}
use Rattle.link80.proofs.FirstSightLemmas.{with_both}
use Rattle.link80.proofs.LoopLemmas.{left_at}
use Rattle.link80.proofs.UnresolvedLemmas.{unresolved_is}
use Rattle.link80.proofs.symbol_tables.find_unresolved.Goals as goal

abbrev undeclared : List (List ℕ) → ModuleValue → List (List ℕ)
undeclared declared m = filter (λ name. is_none (number_in declared name)) m.externals

pub loop-number-preserved : goal.loop-number-preserved
loop-number-preserved c =
    let left : List (List ℕ) = flat_map (undeclared c.args.declared.now) (drop (c.loop-number.number + 1) c.args.joined.now) in (
      ap (λ names. with_names names left) c.in_ok-add_undeclared.ensures.names
          ∙ with_both c.loop-number.names (undeclared c.args.declared.now c.get.result.now) left
          ∙ ap (λ ms. with_names c.loop-number.names (flat_map (undeclared c.args.declared.now) ms))
          (sym (left_at c.args.joined.now c.loop-number.number c.get.result.now c.get.ensures))
          ∙ c.loop-number.invariant.0,
      c.in_ok-add_undeclared.ensures.copies c.loop-number.invariant.1,
    )

pub returns-clause-names : goal.returns-clause-names
returns-clause-names c =
    let past : length c.args.joined.now ≤ c.loop-number.number =
    omega (arith, c.loop-number-test.false, c.len-number-end.ensures) in
    sym (at_drop_all (λ ms. with_names c.loop-number.names (flat_map (undeclared c.args.declared.now) ms)) c.args.joined.now
    c.loop-number.number past)
    ∙ c.loop-number.invariant.0
    ∙ unresolved_is c.args.joined.now c.args.declared.now c.requires

pub returns-clause-copies : goal.returns-clause-copies
returns-clause-copies c = c.loop-number.invariant.1 ∙ returns-clause-names c
