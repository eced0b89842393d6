use Rattle.std.proofs.Common.{rules, ◌≡◌}
use Rattle.std.proofs.lemmas.Fn.{always_returns_same}
use Rattle.std.proofs.lemmas.List.Sorted.{IsNonDecreasingBy-from_sort_by_key}
use Rattle.place80_text.proofs.OrderLemmas.{key, sorted_by_address}
use Rattle.place80_text.proofs.public_lines.by_address.Goals as goal

pub returns : goal.returns
returns c =
    let segments = c.args.segments.now in
    sorted_by_address segments c.args.publics.now _ _ (search rules)
    (IsNonDecreasingBy-from_sort_by_key (key segments) _ c.in_ok-sort_by_key.ensures.sorted (λ a r q k. search rules))
    (c.in_ok-sort_by_key.ensures.stable (key segments)
    (always_returns_same _ (λ a r. r ≡ key segments a.0.now) _ (λ a r q k. search rules)))
