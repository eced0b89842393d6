use Rattle.std.proofs.Common.{rules, ◌≡◌, sym, subst}
use Rattle.std.specs.Prelude.{All, IsSorted, List}
use Rattle.std.specs.List.{dedup}
use Rattle.std.proofs.lemmas.Fn.{always_returns_same, dedup_same}
use Rattle.std.proofs.lemmas.List.Filters.{All-dedup}
use Rattle.std.proofs.lemmas.List.Kept.{IsStrictlySortedBy-dedup}
use Rattle.std.proofs.lemmas.List.Sorted.{All-permutation}
use Rattle.frames80.specs.Procedures.{slot_of}
use Rattle.verify80_explain.specs.declared.reaching.ReachedPoint.{ReachedPoint}
use Rattle.verify80_explain.specs.Order.{ArePointsInOrder, number_of, point_cmp}
use Rattle.verify80_explain.specs.Reaching.{IsReachedOn}
use Rattle.verify80_explain.proofs.OrderLemmas.{is_same_point, point_ties, point_total}
use Rattle.verify80_explain.proofs.reaching.sort_points.Goals as goal

pub returns : goal.returns
returns c =
    let sorted = c.sort_by_key.new.self.items in
    let ordered : IsSorted point_cmp sorted = c.in_ok-sort_by_key.ensures.sorted
    (λ (p : ReachedPoint). record { place = slot_of p.standing.procedure; at = p.standing.at; depth = p.standing.depth; refusal = number_of p })
    (always_returns_same _ _ _ (λ a r q k. search rules)) in
    let left : c.dedup_by_key.new.self.items ≡ dedup is_same_point sorted =
    dedup_same _ is_same_point _ (λ x y b f' x' y' k. search rules) sorted c.dedup_by_key.new.self.items c.dedup_by_key.ensures.filtered in
    record {
      kept = λ code begins conditions all. subst (λ (points : List ReachedPoint). All (IsReachedOn code begins conditions) points) (sym left)
          (All-dedup is_same_point (IsReachedOn code begins conditions) sorted
          (All-permutation (IsReachedOn code begins conditions) c.args.points.now.items sorted c.in_ok-sort_by_key.ensures.permutation all));
      in_order = subst ArePointsInOrder (sym left) (IsStrictlySortedBy-dedup point_total point_ties sorted ordered);
    }
