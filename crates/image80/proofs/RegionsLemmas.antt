-- Ranges, put by address, are regions.
use Rattle.std.proofs.Common.{◌≡◌, ◌≢◌, ℕ, ◌+◌, ◌<◌, ◌≤◌, List, [], ◌∷◌, ◌++◌, get_or, ap, sym, subst, ◌∙◌, arith}
use Rattle.std.specs.Prelude.{All, IsPermutation}
use Rattle.std.specs.List.Sorted.{IsNonDecreasingBy}
use Rattle.std.proofs.lemmas.List.Elements.{All-append, All-cons, All-nil}
use Rattle.std.proofs.lemmas.List.Sorted.{All-permutation}
use Rattle.image80.specs.declared.range.Range.{Range}
use Rattle.image80.specs.Case.{DeclaredCase, IsCase, AreByAddress}
use Rattle.image80.specs.Range.{IsInMemory}
use Rattle.image80.specs.Regions.{AreDisjoint, AreRegions, IsByAddress, held}
use Rattle.image80.proofs.DisjointLemmas.{held_twice, held-append, held-permutation, in_range_is, disjoint_along}

-- ranges in order, none empty, that share no address begin one below the other
by_address : (ranges : List Range) → IsNonDecreasingBy (λ range. range.first) ranges → All (λ range. 0 < range.length) ranges → AreDisjoint ranges → IsByAddress ranges
by_address ranges rising all_filled disjoint i j d order below =
    let up : (get_or ranges i d).first ≤ (get_or ranges j d).first = rising i j d (omega arith) below in
    let some : 0 < (get_or ranges i d).length = all_filled i d (omega arith) in
    let other : 0 < (get_or ranges j d).length = all_filled j d below in
    let once : held (get_or ranges j d).first ranges ≤ 1 = disjoint (get_or ranges j d).first in
    let apart : (get_or ranges i d).first ≢ (get_or ranges j d).first = λ same.
    let twice : 2 ≤ held (get_or ranges j d).first ranges =
    held_twice (get_or ranges j d).first ranges i j d order below
    (in_range_is (get_or ranges i d) (get_or ranges j d).first up (omega arith))
    (in_range_is (get_or ranges j d) (get_or ranges j d).first (omega arith) (omega arith)) in
    omega arith in
    omega arith

-- each part of disjoint ranges is disjoint
front_disjoint : (xs ys : List Range) → AreDisjoint (xs ++ ys) → AreDisjoint xs
front_disjoint xs ys disjoint address =
    let once : held address (xs ++ ys) ≤ 1 = disjoint address in
    let sum : held address (xs ++ ys) ≡ held address xs + held address ys = held-append address xs ys in
    omega arith

back_disjoint : (xs ys : List Range) → AreDisjoint (xs ++ ys) → AreDisjoint ys
back_disjoint xs ys disjoint address =
    let once : held address (xs ++ ys) ≤ 1 = disjoint address in
    let sum : held address (xs ++ ys) ≡ held address xs + held address ys = held-append address xs ys in
    omega arith

-- the ranges of two lists, put in other orders, hold each address as often
pub held_moved : (code code' : List Range) (stack : Range) (data' data'' : List Range) → IsPermutation code code' → IsPermutation data' data'' → (address : ℕ) →
    held address (code' ++ stack ∷ data'') ≡ held address (code ++ stack ∷ data')
held_moved code code' stack data' data'' code_moved data_moved address =
    let left : held address (code ++ stack ∷ data') ≡ held address code + held address (stack ∷ data') = held-append address code (stack ∷ data') in
    let right : held address (code' ++ stack ∷ data'') ≡ held address code' + held address (stack ∷ data'') = held-append address code' (stack ∷ data'') in
    let of_code : held address code' ≡ held address code = held-permutation code code' code_moved address in
    let of_data : held address (stack ∷ data'') ≡ held address (stack ∷ data') = held-append address (stack ∷ []) data'' ∙ ap (λ n. held address (stack ∷ []) + n) (held-permutation data' data'' data_moved address) ∙ sym (held-append address (stack ∷ []) data') in
    omega arith

pub arranged : (code code' : List Range) (stack : Range) (data' data'' : List Range) →
    All (λ range. 0 < range.length) code → All (λ range. 0 < range.length) data' → All IsInMemory code → IsInMemory stack → All IsInMemory data' →
    AreDisjoint (code ++ stack ∷ data') →
    IsPermutation code code' → IsNonDecreasingBy (λ range. range.first) code' → IsPermutation data' data'' → IsNonDecreasingBy (λ range. range.first) data'' →
    (cases : List DeclaredCase) → cases ≡ [] →
    AreRegions (record { code = code'; stack = stack; data_ranges = data''; cases = cases })
arranged code code' stack data' data'' code_filled data_filled code_in stack_in data_in disjoint code_moved code_rising data_moved data_rising cases none =
    let code_filled' : All (λ range. 0 < range.length) code' = All-permutation (λ range. 0 < range.length) code code' code_moved code_filled in
    let data_filled' : All (λ range. 0 < range.length) data'' = All-permutation (λ range. 0 < range.length) data' data'' data_moved data_filled in
    let whole : AreDisjoint (code' ++ stack ∷ data'') = disjoint_along (code ++ stack ∷ data') (code' ++ stack ∷ data'') (held_moved code code' stack data' data'' code_moved data_moved) disjoint in
    record {
      code_by_address = by_address code' code_rising code_filled' (front_disjoint code' (stack ∷ data'') whole);
      data_by_address = by_address data'' data_rising data_filled' (back_disjoint (stack ∷ []) data'' (back_disjoint code' (stack ∷ data'') whole));
      code_filled = code_filled';
      data_filled = data_filled';
      in_memory = All-append IsInMemory code' (stack ∷ data'') (All-permutation IsInMemory code code' code_moved code_in)
          (All-cons IsInMemory stack data'' stack_in (All-permutation IsInMemory data' data'' data_moved data_in));
      disjoint = whole;
      cases_by_address = subst AreByAddress (sym none) (λ i j d order inside. absurd (omega arith));
      each_case = subst (λ cs. All IsCase cs) (sym none) (All-nil IsCase);
    }
