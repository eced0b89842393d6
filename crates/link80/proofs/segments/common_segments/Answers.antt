use Rattle.std.specs.Prelude.{◌≡◌, ◌≤◌, ◌+◌, List, ℕ, drop, length, map}
use Rattle.std.specs.List.{flat_map, AllByRecursion}
use Rattle.std.proofs.Common.{◌∙◌, ap, sym, subst, arith}
use Rattle.std.proofs.lemmas.List.{at_drop_all, drop_all, length-map}
use Rattle.std.proofs.lemmas.Simd.{splat_is_map}
use Rattle.omf_model.specs.Modules.{ModuleValue}
use Rattle.omf_model.specs.Segments.{empty_segment}
use Rattle.link80.specs.Joined.{parts_of_commons, with_named_parts}
use Rattle.link80.specs.Linked.{common_names}
use Rattle.link80.proofs.JoinedLemmas.{OncePart, once_part, common_entries, with_both_parts}
use Rattle.link80.proofs.LoopLemmas.{left_at}
use Rattle.link80.proofs.segments.common_segments.Goals as goal

pub loop-number-init : goal.loop-number-init
loop-number-init c =
    let names : List (List ℕ) = common_names c.args.joined.now in
    let empty : c.in_ok-segments.segments.items ≡ map (λ _. empty_segment) names =
    c.in_ok-segments.ensures.items_if_clones_equal (λ y is. is)
    ∙ splat_is_map names c.common_count.result empty_segment (sym c.common_count.ensures.count) in (
      ap (λ segments. with_named_parts names segments (flat_map parts_of_commons c.args.joined.now)) empty,
      ap length empty
          ∙ length-map names (λ _. empty_segment),
      λ all. all,
    )

pub loop-number-preserved : goal.loop-number-preserved
loop-number-preserved c =
    let names : List (List ℕ) = common_names c.args.joined.now in
    let left : List ModuleValue = drop (c.loop-number.number + 1) c.args.joined.now in
    let next = left_at c.args.joined.now c.loop-number.number c.get.result.now c.get.ensures in (
      ap (λ segments. with_named_parts names segments (flat_map parts_of_commons left)) c.join_commons.ensures.joined
          ∙ with_both_parts names c.loop-number.segments.items (parts_of_commons c.get.result.now)
          (flat_map parts_of_commons left)
          ∙ ap (λ ms. with_named_parts names c.loop-number.segments.items (flat_map parts_of_commons ms)) (sym next)
          ∙ c.loop-number.invariant.0,
      c.join_commons.ensures.len ∙ c.loop-number.invariant.1,
      λ all. c.loop-number.invariant.2
          (subst (λ ms. AllByRecursion OncePart ms) (sym next) (once_part c.get.result.now c.join_commons.ensures.rules, all)),
    )

pub returns-clause-segments : goal.returns-clause-segments
returns-clause-segments c =
    let past : length c.args.joined.now ≤ c.loop-number.number =
    omega (arith, c.loop-number-test.false, c.len-number-end.ensures) in
    let names : List (List ℕ) = common_names c.args.joined.now in
    common_entries c.args.joined.now c.loop-number.segments.items
    (omega (arith, c.common_count.ensures.count, c.common_count.ensures.few))
    (c.loop-number.invariant.2 (at_drop_all_is c.args.joined.now c.loop-number.number past))
    (sym (at_drop_all (λ ms. with_named_parts names c.loop-number.segments.items (flat_map parts_of_commons ms)) c.args.joined.now
    c.loop-number.number past) ∙ c.loop-number.invariant.0)
  where
    at_drop_all_is : (ms : List ModuleValue) (n : ℕ) → length ms ≤ n → AllByRecursion OncePart (drop n ms)
    at_drop_all_is ms n past = subst (AllByRecursion OncePart) (sym (drop_all n ms past)) tt
