-- When no address lies in two ranges.
use Rattle.std.proofs.Common.{◌≡◌, ℕ, zero, suc, ◌+◌, ◌<◌, ◌≤◌, Bool, true, false, cond, List, [], ◌∷◌, ◌++◌, length, get_or, subst, append_assoc, zero-add, refl, ap, sym, ◌∙◌, arith}
use Rattle.std.specs.Prelude.{nat_le, ◌↔◌, IsTrue, All, IsPermutation}
use Rattle.std.specs.List.{AllAdjacentBelow, IsAllAdjacentAnswer}
use Rattle.std.specs.List.Sorted.{IsNonDecreasingBy}
use Rattle.std.proofs.lemmas.Bool.{leb-true, leb-false}
use Rattle.std.proofs.lemmas.Grind.{common_steps}
use Rattle.std.proofs.lemmas.List.Elements.{All-same, All-append, All-cons}
use Rattle.std.proofs.lemmas.List.Sums.{sum_by-cons, sum_by-append}
use Rattle.std.proofs.lemmas.List.Sorted.{sum_by-IsPermutation, All-permutation}
use Rattle.image80.specs.declared.range.Range.{Range}
use Rattle.image80.specs.Range.{in_range}
use Rattle.image80.specs.Regions.{AreDisjoint, held}

held-cons : (address : ℕ) (range : Range) (ranges : List Range) → held address (range ∷ ranges) ≡ cond (in_range range address) 1 0 + held address ranges
held-cons address range ranges = sum_by-cons (λ r. cond (in_range r address) 1 0) range ranges

-- an address in a range, and one that is in none
pub in_range_is : (range : Range) (address : ℕ) → range.first ≤ address → address < range.first + range.length → in_range range address ≡ true
in_range_is range address above below = grind (arith, common_steps)

pub in_range_not : (range : Range) (address : ℕ) → address < range.first → in_range range address ≡ false
in_range_not range address below = grind (arith, common_steps)

pub in_range_below : (range : Range) (address : ℕ) → in_range range address ≡ true → address < range.first + range.length
in_range_below range address inside = grind (arith, common_steps)

in_range_empty : (range : Range) (address : ℕ) → range.length ≡ 0 → in_range range address ≡ false
in_range_empty range address empty = grind (arith, common_steps)

-- an address in the range at a place, and in those at two places
held_at : (address : ℕ) (ranges : List Range) (i : ℕ) (d : Range) → i < length ranges → in_range (get_or ranges i d) address ≡ true → 1 ≤ held address ranges
held_at address [] i d below inside = absurd (omega arith)
held_at address (r ∷ rs) zero d below inside = rw (held-cons address r rs, inside) (omega arith)
held_at address (r ∷ rs) (suc i) d below inside =
    let later : 1 ≤ held address rs = held_at address rs i d (omega arith) inside in
    rw (held-cons address r rs) (omega arith)

pub held_twice : (address : ℕ) (ranges : List Range) (i j : ℕ) (d : Range) → i < j → j < length ranges →
    in_range (get_or ranges i d) address ≡ true → in_range (get_or ranges j d) address ≡ true → 2 ≤ held address ranges
held_twice address [] i j d before below one other = absurd (omega arith)
held_twice address (r ∷ rs) i zero d before below one other = absurd (omega arith)
held_twice address (r ∷ rs) zero (suc j) d before below one other =
    let later : 1 ≤ held address rs = held_at address rs j d (omega arith) other in
    rw (held-cons address r rs, one) (omega arith)
held_twice address (r ∷ rs) (suc i) (suc j) d before below one other =
    let later : 2 ≤ held address rs = held_twice address rs i j d (omega arith) (omega arith) one other in
    rw (held-cons address r rs) (omega arith)

-- an address below every range
held_none : (address : ℕ) (ranges : List Range) → ((k : ℕ) (d : Range) → k < length ranges → address < (get_or ranges k d).first) → held address ranges ≡ 0
held_none address [] above = refl
held_none address (r ∷ rs) above =
    let rest : held address rs ≡ 0 = held_none address rs (λ k d below. above (suc k) d (omega arith)) in
    rw (held-cons address r rs, in_range_not r address (above 0 r (omega arith)), rest) refl

-- each range ends at or below the next
abbrev pub IsApart : Range → Range → Type 0
IsApart range next = true ≡ nat_le (range.first + range.length) next.first

-- the ranges after the first begin past its end
after_head : (r : Range) (rs : List Range) → IsNonDecreasingBy (λ range. range.first) (r ∷ rs) → AllAdjacentBelow IsApart (r ∷ rs) (length (r ∷ rs)) →
    (k : ℕ) (d : Range) → k < length rs → r.first + r.length ≤ (get_or rs k d).first
after_head r [] rising apart k d below = absurd (omega arith)
after_head r (s ∷ rs) rising apart k d below =
    let ends : r.first + r.length ≤ s.first = leb-true _ _ (sym (apart 0 r (omega arith))) in
    let up : s.first ≤ (get_or (s ∷ rs) k d).first = rising 1 (suc k) d (omega arith) (omega arith) in
    omega arith

apart-tail : (r : Range) (rs : List Range) → AllAdjacentBelow IsApart (r ∷ rs) (length (r ∷ rs)) → AllAdjacentBelow IsApart rs (length rs)
apart-tail r rs apart k d below =
    let e : suc k + 1 ≡ suc (k + 1) = omega arith in
    subst (λ n. IsApart (get_or rs k d) (get_or (r ∷ rs) n d)) e (apart (suc k) d (omega arith))

-- ranges in order that end by the next share no address
disjoint_from_apart : (ranges : List Range) → IsNonDecreasingBy (λ range. range.first) ranges → AllAdjacentBelow IsApart ranges (length ranges) → AreDisjoint ranges
disjoint_from_apart [] rising apart address = omega arith
disjoint_from_apart (r ∷ rs) rising apart address =
    let rest : held address rs ≤ 1 = disjoint_from_apart rs (λ i j d order below. rising (suc i) (suc j) d (omega arith) (omega arith)) (apart-tail r rs apart) address in
    rw (held-cons address r rs)
    ((elim (in_range r address) as (λ b. in_range r address ≡ b → cond b 1 0 + held address rs ≤ 1) [
      | true ↦ λ inside.
          let none : held address rs ≡ 0 = held_none address rs (λ k d below.
          let past : r.first + r.length ≤ (get_or rs k d).first = after_head r rs rising apart k d below in
          let inner : address < r.first + r.length = in_range_below r address inside in
          omega arith) in
          omega arith
      | false ↦ λ outside. omega arith
    ]) refl)

-- ranges in order, none empty, of which one ends past the first address of the next
shared_from_neighbours : (ranges : List Range) (k : ℕ) → IsNonDecreasingBy (λ range. range.first) ranges → All (λ range. 0 < range.length) ranges →
    k + 1 < length ranges → ((d : Range) → false ≡ nat_le ((get_or ranges k d).first + (get_or ranges k d).length) (get_or ranges (k + 1) d).first) → ¬ (AreDisjoint ranges)
shared_from_neighbours ranges k rising all_filled below overlap disjoint =
    let d : Range = record { first = 0; length = 0 } in
    let past : (get_or ranges (k + 1) d).first < (get_or ranges k d).first + (get_or ranges k d).length = leb-false _ _ (sym (overlap d)) in
    let up : (get_or ranges k d).first ≤ (get_or ranges (k + 1) d).first = rising k (k + 1) d (omega arith) below in
    let some : 0 < (get_or ranges (k + 1) d).length = all_filled (k + 1) d below in
    let twice : 2 ≤ held (get_or ranges (k + 1) d).first ranges =
    held_twice (get_or ranges (k + 1) d).first ranges k (k + 1) d (omega arith) below
    (in_range_is (get_or ranges k d) (get_or ranges (k + 1) d).first up past)
    (in_range_is (get_or ranges (k + 1) d) (get_or ranges (k + 1) d).first (omega arith) (omega arith)) in
    let once : held (get_or ranges (k + 1) d).first ranges ≤ 1 = disjoint (get_or ranges (k + 1) d).first in
    omega arith

-- ranges that hold each address as often as these are disjoint where these are
pub disjoint_along : (xs ys : List Range) → ((address : ℕ) → held address ys ≡ held address xs) → AreDisjoint xs → AreDisjoint ys
disjoint_along xs ys same disjoint address =
    let once : held address xs ≤ 1 = disjoint address in
    rw (same address) once

pub held-permutation : (xs ys : List Range) → IsPermutation xs ys → (address : ℕ) → held address ys ≡ held address xs
held-permutation xs ys moved address = sum_by-IsPermutation (λ range. cond (in_range range address) 1 0) xs ys moved

-- an empty range holds no address
pub held_without_empty : (code : List Range) (stack : Range) (data' : List Range) → stack.length ≡ 0 → (address : ℕ) →
    held address (code ++ data') ≡ held address (code ++ stack ∷ data')
held_without_empty code stack data' empty address =
    sum_by-append (λ range. cond (in_range range address) 1 0) code data'
    ∙ ap (λ n. held address code + n) (sym (held-cons address stack data' ∙ ap (λ b. cond b 1 0 + held address data') (in_range_empty stack address empty) ∙ zero-add (held address data')))
    ∙ sym (sum_by-append (λ range. cond (in_range range address) 1 0) code (stack ∷ data'))

-- the test of neighbours decides whether ranges are disjoint
pub decides_disjoint : (whole ranges sorted : List Range) (r : Bool) → ((address : ℕ) → held address ranges ≡ held address whole) →
    All (λ range. 0 < range.length) ranges → IsPermutation ranges sorted → IsNonDecreasingBy (λ range. range.first) sorted →
    IsAllAdjacentAnswer (λ a b t. t ≡ nat_le (a.first + a.length) b.first) sorted r → IsTrue r ↔ AreDisjoint whole
decides_disjoint whole ranges sorted true same all_filled moved rising answer =
    (λ _. disjoint_along sorted whole (λ address. sym (same address) ∙ sym (held-permutation ranges sorted moved address)) (disjoint_from_apart sorted rising answer), λ _. refl)
decides_disjoint whole ranges sorted false same all_filled moved rising answer = (
  λ wrong. cc,
  λ disjoint. absurd (shared_from_neighbours sorted answer.0 rising (All-permutation (λ range. 0 < range.length) ranges sorted moved all_filled) answer.1 answer.2
      (disjoint_along whole sorted (λ address. held-permutation ranges sorted moved address ∙ same address) disjoint)),
)

-- ranges, none of them empty, that hold each address as often as the whole
pub record IsGathered (whole ranges : List Range) : Type 0 where
  pub held_same : (address : ℕ) → held address ranges ≡ held address whole
  pub all_filled : All (λ range. 0 < range.length) ranges

-- code, stack and data, where the stack isn't empty
pub gathered_with_stack : (code : List Range) (stack : Range) (data' ranges : List Range) → All (λ range. 0 < range.length) code → All (λ range. 0 < range.length) data' →
    0 < stack.length → ranges ≡ (code ++ stack ∷ []) ++ data' → IsGathered (code ++ stack ∷ data') ranges
gathered_with_stack code stack data' ranges code_filled data_filled some is =
    let joined : ranges ≡ code ++ stack ∷ data' = is ∙ append_assoc code (stack ∷ []) data' in
    record {
      held_same = λ address. ap (held address) joined;
      all_filled = All-same (λ range. 0 < range.length) ranges (code ++ stack ∷ data') joined
          (All-append (λ range. 0 < range.length) code (stack ∷ data') code_filled (All-cons (λ range. 0 < range.length) stack data' some data_filled));
    }

-- code and data, where the stack is empty
pub gathered_without_stack : (code : List Range) (stack : Range) (data' ranges : List Range) → All (λ range. 0 < range.length) code → All (λ range. 0 < range.length) data' →
    stack.length ≡ 0 → ranges ≡ code ++ data' → IsGathered (code ++ stack ∷ data') ranges
gathered_without_stack code stack data' ranges code_filled data_filled empty is =
    record {
      held_same = λ address. ap (held address) is ∙ held_without_empty code stack data' empty address;
      all_filled = All-same (λ range. 0 < range.length) ranges (code ++ data') is (All-append (λ range. 0 < range.length) code data' code_filled data_filled);
    }

-- the parts of a list hold an address together
pub held-append : (address : ℕ) (xs ys : List Range) → held address (xs ++ ys) ≡ held address xs + held address ys
held-append address xs ys = sum_by-append (λ range. cond (in_range range address) 1 0) xs ys
