use Rattle.std.proofs.Common.{rules, ◌≡◌, sym, subst}
use Rattle.std.specs.Prelude.{All, IsSorted, List}
use Rattle.std.specs.List.{dedup}
use Rattle.std.proofs.lemmas.Fn.{always_returns_same, dedup_same}
use Rattle.std.proofs.lemmas.List.Filters.{All-dedup}
use Rattle.std.proofs.lemmas.List.Kept.{IsStrictlySortedBy-dedup}
use Rattle.std.proofs.lemmas.List.Sorted.{All-permutation}
use Rattle.verify80_flow.specs.Refusal.{refusal_address, refusal_code}
use Rattle.verify80_explain.specs.declared.explaining_all.ShownRefusal.{ShownRefusal}
use Rattle.verify80_explain.specs.Order.{AreShownInOrder, shown_cmp}
use Rattle.verify80_explain.specs.Shows.{IsShown}
use Rattle.verify80_explain.proofs.OrderLemmas.{is_same_shown, shown_ties, shown_total}
use Rattle.verify80_explain.proofs.explaining_all.sort_shown.Goals as goal

pub returns : goal.returns
returns c =
    let sorted = c.sort_by_key.new.self.items in
    let ordered : IsSorted shown_cmp sorted = c.in_ok-sort_by_key.ensures.sorted
    (λ (one : ShownRefusal). record { at = refusal_address one.refusal; code = refusal_code one.refusal }) (always_returns_same _ _ _ (λ a r q k. search rules)) in
    let left : c.dedup_by_key.new.self.items ≡ dedup is_same_shown sorted =
    dedup_same _ is_same_shown _ (λ x y b f' x' y' k. search rules) sorted c.dedup_by_key.new.self.items c.dedup_by_key.ensures.filtered in
    record {
      kept = λ code all. subst (λ (shown : List ShownRefusal). All (IsShown code) shown) (sym left)
          (All-dedup is_same_shown (IsShown code) sorted (All-permutation (IsShown code) c.args.shown.now.items sorted c.in_ok-sort_by_key.ensures.permutation all));
      in_order = subst AreShownInOrder (sym left) (IsStrictlySortedBy-dedup shown_total shown_ties sorted ordered);
    }
