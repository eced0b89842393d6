-- Refusals in order, each once: those of points, and what a sort and a dedup leave.
use Rattle.std.proofs.Common.{◌≡◌, ◌<◌, ℕ, ℤ, ap, suc, Bool, true, List, [], ◌∷◌, refl, sym, ◌∙◌, subst, arith, ◌⊎◌}
use Rattle.std.specs.Prelude.{◌==◌, ◌&&◌, All, Any, Contains, IfSome, IsPermutation, IsSorted, Option, None, Some, nat_eq}
use Rattle.std.specs.List.{cons_option, dedup, filter_map}
use Rattle.std.specs.Cmp.{IsEquivalence, IsTotalOrder}
use Rattle.std.specs.Cmp.Lexicographic.{options_total}
use Rattle.std.specs.Option.{option_cmp, option_eq}
use Rattle.std.specs.declared.cmp.Ordering.{Ordering}
use Rattle.std.specs.declared.cmp.Ordering.TheVariants.{Less, Equal, Greater}
use Rattle.std.specs.Ordering.{eq_by_cmp, int_cmp, int_eq, is_eq, nat_cmp, ordering_then}
use Rattle.std.proofs.lemmas.Cmp.{eq_by_cmp_equiv, int_cmp_total, nat_cmp_total, on_total, then_total}
use Rattle.std.proofs.lemmas.List.Elements.{All-cons, All-nil, All-weaker}
use Rattle.std.proofs.lemmas.List.Filters.{All-dedup}
use Rattle.std.proofs.lemmas.List.Kept.{Any-dedup, IsStrictlySortedBy-dedup}
use Rattle.std.proofs.lemmas.List.Sorted.{All-permutation, Contains-permutation}
use Rattle.frames80.specs.Procedures.{slot_of}
use Rattle.verify80_flow.specs.declared.refusal.Refusal.{Refusal}
use Rattle.verify80_flow.specs.Refusal.{refusal_address, refusal_code}
use Rattle.verify80_explain.specs.declared.reaching.ReachedPoint.{ReachedPoint}
use Rattle.verify80_explain.specs.declared.explaining_all.ShownRefusal.{ShownRefusal}
use Rattle.verify80_explain.specs.Order.{AreSame, number_of, point_cmp, refusal_cmp, shown_cmp}
use Rattle.verify80_explain.specs.Reaching.{AreRefusalsOf, IsListedIn, IsRefusalAmong}

abbrev pub refused : List ReachedPoint → List Refusal
refused points = filter_map (λ (point : ReachedPoint). point.refusal) points

-- ---- the refusals of points

later : (p : ReachedPoint) (ps : List ReachedPoint) (r : Refusal) → IsRefusalAmong ps r → IsRefusalAmong (p ∷ ps) r
later p ps r (k, q, below, at, is) = (suc k, q, omega (arith, below), at, is)

are_among : (points : List ReachedPoint) → All (IsRefusalAmong points) (refused points)
are_among [] = All-nil (IsRefusalAmong [])
are_among (p ∷ ps) = by p.refusal refl
    (All-weaker (IsRefusalAmong ps) (IsRefusalAmong (p ∷ ps)) (λ r is. later p ps r is) (refused ps) (are_among ps))
  where
    by : (o : Option Refusal) → p.refusal ≡ o → All (IsRefusalAmong (p ∷ ps)) (refused ps) → All (IsRefusalAmong (p ∷ ps)) (refused (p ∷ ps))
    by None e rest = subst (λ o. All (IsRefusalAmong (p ∷ ps)) (cons_option o (refused ps))) (sym e) rest
    by (Some r) e rest = subst (λ o. All (IsRefusalAmong (p ∷ ps)) (cons_option o (refused ps))) (sym e)
        (All-cons (IsRefusalAmong (p ∷ ps)) r (refused ps) (0, p, omega arith, refl, e) rest)

holds_later : (r : Refusal) (rs : List Refusal) (x : Refusal) → Contains rs x → Contains (r ∷ rs) x
holds_later r rs x (k, below, at) = (suc k, omega (arith, below), at)

abbrev Held : List Refusal → ReachedPoint → Type 0
Held rs point = IfSome point.refusal (Contains rs)

are_held : (points : List ReachedPoint) → All (Held (refused points)) points
are_held [] = All-nil (Held [])
are_held (p ∷ ps) = by p.refusal refl (are_held ps)
  where
    more : (r : Refusal) (o : Option Refusal) → IfSome o (Contains (refused ps)) → IfSome o (Contains (r ∷ refused ps))
    more r None is = is
    more r (Some x) is = holds_later r (refused ps) x is

    by : (o : Option Refusal) → p.refusal ≡ o → All (Held (refused ps)) ps → All (Held (refused (p ∷ ps))) (p ∷ ps)
    by None e rest = subst (λ o. All (Held (cons_option o (refused ps))) (p ∷ ps)) (sym e)
        (All-cons (Held (refused ps)) p ps (subst (λ o. IfSome o (Contains (refused ps))) (sym e) tt) rest)
    by (Some r) e rest = subst (λ o. All (Held (cons_option o (refused ps))) (p ∷ ps)) (sym e)
        (All-cons (Held (r ∷ refused ps)) p ps (subst (λ o. IfSome o (Contains (r ∷ refused ps))) (sym e) (0, omega arith, refl))
        (All-weaker (Held (refused ps)) (Held (r ∷ refused ps)) (λ q is. more r q.refusal is) ps rest))

-- ---- their order

refusal_total : IsTotalOrder refusal_cmp
refusal_total = then_total (on_total refusal_address (options_total nat_cmp_total)) (on_total refusal_code nat_cmp_total)

-- whether two refusals have the same address and the same number
abbrev pub is_same : Refusal → Refusal → Bool
is_same one other = option_eq nat_eq (refusal_address one) (refusal_address other) && (refusal_code one == refusal_code other)

numbers_tie : (m n : ℕ) → (m == n) ≡ eq_by_cmp nat_cmp m n
numbers_tie m n = grind arith

places_tie : (a b : Option ℕ) (m n : ℕ) → (option_eq nat_eq a b && (m == n)) ≡ is_eq (ordering_then (option_cmp nat_cmp a b) (nat_cmp m n))
places_tie None None m n = numbers_tie m n
places_tie None (Some y) m n = refl
places_tie (Some x) None m n = refl
places_tie (Some x) (Some y) m n = grind arith

ties : (one other : Refusal) → is_same one other ≡ eq_by_cmp refusal_cmp one other
ties one other = places_tie (refusal_address one) (refusal_address other) (refusal_code one) (refusal_code other)

-- what is the same has the same address and the same number
same_place : (a b : Option ℕ) (m n : ℕ) → (option_eq nat_eq a b && (m == n)) ≡ true → (a ≡ b) × (m ≡ n)
same_place None None m n is = (refl, grind arith)
same_place None (Some y) m n is = cc
same_place (Some x) None m n is = cc
same_place (Some x) (Some y) m n is = grind arith

are_same : (one other : Refusal) → is_same one other ≡ true → AreSame one other
are_same one other is =
    let both = same_place (refusal_address one) (refusal_address other) (refusal_code one) (refusal_code other) is in
    record { address = both.0; code = both.1 }

same_laws : IsEquivalence is_same
same_laws = record {
  refl = λ one. ties one one ∙ (eq_by_cmp_equiv refusal_total).refl one;
  symm = λ one other. ties one other ∙ (eq_by_cmp_equiv refusal_total).symm one other ∙ sym (ties other one);
  congr = λ one other third is. ties one third ∙ (eq_by_cmp_equiv refusal_total).congr one other third (sym (ties one other) ∙ is) ∙ sym (ties other third);
}

-- of refusals that are shown
abbrev pub is_same_shown : ShownRefusal → ShownRefusal → Bool
is_same_shown one other = is_same one.refusal other.refusal

pub shown_total : IsTotalOrder shown_cmp
shown_total = on_total (λ (one : ShownRefusal). one.refusal) refusal_total

pub shown_ties : (one other : ShownRefusal) → is_same_shown one other ≡ eq_by_cmp shown_cmp one other
shown_ties one other = ties one.refusal other.refusal

-- ---- points

-- whether two points have the same procedure, address, depth and number
abbrev pub is_same_point : ReachedPoint → ReachedPoint → Bool
is_same_point one other = nat_eq (slot_of one.standing.procedure) (slot_of other.standing.procedure)
    && (nat_eq one.standing.at other.standing.at
    && (int_eq one.standing.depth other.standing.depth
    && option_eq nat_eq (number_of one) (number_of other)))

both_tie : (r s : Ordering) → (is_eq r && is_eq s) ≡ is_eq (ordering_then r s)
both_tie Less s = refl
both_tie Equal s = refl
both_tie Greater s = refl

options_tie : (a b : Option ℕ) → option_eq nat_eq a b ≡ is_eq (option_cmp nat_cmp a b)
options_tie None None = refl
options_tie None (Some y) = refl
options_tie (Some x) None = refl
options_tie (Some x) (Some y) = numbers_tie x y

tied : (p q a b : ℕ) (d e : ℤ) (m n : Option ℕ) → (nat_eq p q && (nat_eq a b && (int_eq d e && option_eq nat_eq m n)))
    ≡ is_eq (ordering_then (nat_cmp p q) (ordering_then (nat_cmp a b) (ordering_then (int_cmp d e) (option_cmp nat_cmp m n))))
tied p q a b d e m n =
    ap (λ (t : Bool). t && (nat_eq a b && (int_eq d e && option_eq nat_eq m n))) (numbers_tie p q)
    ∙ ap (λ (t : Bool). is_eq (nat_cmp p q) && (t && (int_eq d e && option_eq nat_eq m n))) (numbers_tie a b)
    ∙ ap (λ (t : Bool). is_eq (nat_cmp p q) && (is_eq (nat_cmp a b) && (int_eq d e && t))) (options_tie m n)
    ∙ ap (λ (t : Bool). is_eq (nat_cmp p q) && (is_eq (nat_cmp a b) && t)) (both_tie (int_cmp d e) (option_cmp nat_cmp m n))
    ∙ ap (λ (t : Bool). is_eq (nat_cmp p q) && t) (both_tie (nat_cmp a b) (ordering_then (int_cmp d e) (option_cmp nat_cmp m n)))
    ∙ both_tie (nat_cmp p q) (ordering_then (nat_cmp a b) (ordering_then (int_cmp d e) (option_cmp nat_cmp m n)))

pub point_ties : (one other : ReachedPoint) → is_same_point one other ≡ eq_by_cmp point_cmp one other
point_ties one other = tied (slot_of one.standing.procedure) (slot_of other.standing.procedure) one.standing.at other.standing.at
    one.standing.depth other.standing.depth (number_of one) (number_of other)

pub point_total : IsTotalOrder point_cmp
point_total =
    then_total (on_total (λ (p : ReachedPoint). slot_of p.standing.procedure) nat_cmp_total)
    (then_total (on_total (λ (p : ReachedPoint). p.standing.at) nat_cmp_total)
    (then_total (on_total (λ (p : ReachedPoint). p.standing.depth) int_cmp_total)
    (on_total number_of (options_total nat_cmp_total))))

-- ---- what a sort and a dedup leave

module _ (points : List ReachedPoint) (sorted : List Refusal) (moved : IsPermutation (refused points) sorted) where
  whole : All (IsListedIn (dedup is_same sorted)) points
  whole = All-weaker (Held (refused points)) (IsListedIn (dedup is_same sorted)) (λ p is. by p.refusal is) points (are_held points)
    where
      by : (o : Option Refusal) → IfSome o (Contains (refused points)) → IfSome o (λ r. Any (AreSame r) (dedup is_same sorted))
      by None is = is
      by (Some r) is =
          let (k, one, below, at, same) = Any-dedup same_laws sorted r (Contains-permutation (refused points) sorted r moved is) in
          (k, one, below, at, are_same r one same)

  pub are_left : IsSorted refusal_cmp sorted → AreRefusalsOf points (dedup is_same sorted)
  are_left is = record {
    among = All-dedup is_same (IsRefusalAmong points) sorted
        (All-permutation (IsRefusalAmong points) (refused points) sorted moved (are_among points));
    whole = whole;
    ascending = IsStrictlySortedBy-dedup refusal_total ties sorted is;
  }
