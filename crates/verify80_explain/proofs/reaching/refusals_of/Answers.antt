use Rattle.std.proofs.Common.{rules, ◌≡◌, sym, subst}
use Rattle.std.specs.Prelude.{IsPermutation, IsSorted, List}
use Rattle.std.specs.List.{dedup}
use Rattle.std.proofs.lemmas.Fn.{always_returns_same, dedup_same}
use Rattle.verify80_flow.specs.declared.refusal.Refusal.{Refusal}
use Rattle.verify80_flow.specs.Refusal.{refusal_address, refusal_code}
use Rattle.verify80_explain.specs.Order.{refusal_cmp}
use Rattle.verify80_explain.specs.Reaching.{AreRefusalsOf}
use Rattle.verify80_explain.proofs.OrderLemmas.{are_left, is_same}
use Rattle.verify80_explain.proofs.reaching.refusals_of.Goals as goal

pub returns : goal.returns
returns c =
    let points = c.args.points.now in
    let sorted = c.sort_by_key.new.self.items in
    let moved = subst (λ (rs : List Refusal). IsPermutation rs sorted) c.in_ok-refusals.ensures c.in_ok-sort_by_key.ensures.permutation in
    let ordered : IsSorted refusal_cmp sorted = c.in_ok-sort_by_key.ensures.sorted
    (λ (r : Refusal). record { at = refusal_address r; code = refusal_code r }) (always_returns_same _ _ _ (λ a r q k. search rules)) in
    let left : c.dedup_by_key.new.self.items ≡ dedup is_same sorted =
    dedup_same _ is_same _ (λ x y b f' x' y' k. search rules) sorted c.dedup_by_key.new.self.items c.dedup_by_key.ensures.filtered in
    subst (AreRefusalsOf points) (sym left) (are_left points sorted moved ordered)
