use Rattle.std.specs.Prelude.{◌≤◌, ◌+◌, List, ℕ, drop, length}
use Rattle.std.specs.List.{flat_map}
use Rattle.std.proofs.Common.{◌∙◌, ap, sym, arith}
use Rattle.std.proofs.lemmas.List.{at_drop_all}
use Rattle.link80.specs.FirstSight.{with_names}
use Rattle.link80.specs.Linked.{names_of_commons}
use Rattle.link80.proofs.FirstSightLemmas.{with_both, first_sights}
use Rattle.link80.proofs.LoopLemmas.{left_at}
use Rattle.link80.proofs.commons.common_names.Goals as goal

pub loop-number-preserved : goal.loop-number-preserved
loop-number-preserved c =
    let left : List (List ℕ) = flat_map names_of_commons (drop (c.loop-number.number + 1) c.args.modules.now) in (
      ap (λ names. with_names names left) c.in_ok-add_commons.ensures.names
          ∙ with_both c.loop-number.names (names_of_commons c.get.result.now) left
          ∙ ap (λ ms. with_names c.loop-number.names (flat_map names_of_commons ms))
          (sym (left_at c.args.modules.now c.loop-number.number c.get.result.now c.get.ensures))
          ∙ c.loop-number.invariant.0,
      c.in_ok-add_commons.ensures.copies c.loop-number.invariant.1,
    )

pub returns-clause-names : goal.returns-clause-names
returns-clause-names c =
    let past : length c.args.modules.now ≤ c.loop-number.number =
    omega (arith, c.loop-number-test.false, c.len-number-end.ensures) in
    sym (at_drop_all (λ ms. with_names c.loop-number.names (flat_map names_of_commons ms)) c.args.modules.now c.loop-number.number
    past)
    ∙ c.loop-number.invariant.0
    ∙ first_sights (flat_map names_of_commons c.args.modules.now)

pub returns-clause-copies : goal.returns-clause-copies
returns-clause-copies c = c.loop-number.invariant.1 ∙ returns-clause-names c
