-- Whether an address is in one of many ranges, by a search for the range that begins at or below it.
use Rattle.std.proofs.Common.{◌≡◌, ℕ, zero, suc, ◌+◌, ◌<◌, ◌≤◌, Bool, true, false, cond, inl, inr, List, [], ◌∷◌, ◌++◌, length, get_or, Result, Ok, Err, refl, ap, sym, ◌∙◌, arith}
use Rattle.std.specs.Prelude.{◌||◌, ◌⊎◌, IfOk, IfErr}
use Rattle.std.specs.List.Sorted.{IsSearchInRange, IsBinarySearchResult, IsNonDecreasingBy}
use Rattle.std.specs.Ordering.{nat_cmp, ordering_index}
use Rattle.std.proofs.lemmas.Bool.Decides.{nat_tests}
use Rattle.std.proofs.lemmas.Cmp.{ranked}
use Rattle.std.proofs.lemmas.List.Sums.{sum_by-cons}
use Rattle.image80.specs.declared.range.Range.{Range}
use Rattle.image80.specs.Range.{in_range, in_ranges}
use Rattle.image80.specs.Regions.{Areas, AreRegions, AreApart, held}
use Rattle.image80.proofs.DisjointLemmas.{in_range_is, in_range_not, in_range_below, held_twice, held-append}

-- an address in the range at a place is in one of them
pub in_range_at : (ranges : List Range) (address i : ℕ) (d : Range) → i < length ranges → in_range (get_or ranges i d) address ≡ true →
    in_ranges ranges address ≡ true
in_range_at [] address i d below inside = absurd (omega arith)
in_range_at (r ∷ rs) address zero d below inside = rw inside refl
in_range_at (r ∷ rs) address (suc i) d below inside = or_true (in_range r address) (in_ranges rs address) (in_range_at rs address i d (omega arith) inside)
  where
    or_true : (a b : Bool) → b ≡ true → (a || b) ≡ true
    or_true true b is = refl
    or_true false b is = is

-- one that is in none of them isn't
pub in_no_range : (ranges : List Range) (address : ℕ) → ((k : ℕ) (d : Range) → k < length ranges → in_range (get_or ranges k d) address ≡ false) →
    in_ranges ranges address ≡ false
in_no_range [] address outside = refl
in_no_range (r ∷ rs) address outside = rw (outside 0 r (omega arith)) (in_no_range rs address (λ k d below. outside (suc k) d (omega arith)))

-- a test that answers as the only range that may hold the address
pub in_only_range : (ranges : List Range) (address i : ℕ) (d : Range) → i < length ranges →
    ((k : ℕ) (e : Range) → k < length ranges → (k < i) ⊎ (i < k) → in_range (get_or ranges k e) address ≡ false) →
    (b : Bool) → in_range (get_or ranges i d) address ≡ b → in_ranges ranges address ≡ b
in_only_range ranges address i d below others true is = in_range_at ranges address i d below is
in_only_range ranges address i d below others false is = in_no_range ranges address (λ k e inside. by k e inside (order k i))
  where
    order : (k i : ℕ) → ((k < i) ⊎ (i < k)) ⊎ (k ≡ i)
    order zero zero = inr refl
    order zero (suc i) = inl (inl (omega arith))
    order (suc k) zero = inl (inr (omega arith))
    order (suc k) (suc i) = elim (order k i) [
      | inl apart ↦ inl (elim apart [ inl less ↦ inl (omega arith) | inr more ↦ inr (omega arith) ])
      | inr same ↦ inr (ap suc same)
    ]

    same_default : (rs : List Range) (k : ℕ) (e : Range) → k < length rs → get_or rs k e ≡ get_or rs k d
    same_default [] k e inside = absurd (omega arith)
    same_default (r ∷ rs) zero e inside = refl
    same_default (r ∷ rs) (suc k) e inside = same_default rs k e (omega arith)

    by : (k : ℕ) (e : Range) → k < length ranges → ((k < i) ⊎ (i < k)) ⊎ (k ≡ i) → in_range (get_or ranges k e) address ≡ false
    by k e inside (inl apart) = others k e inside apart
    by k e inside (inr same) = ap (λ r. in_range r address) (same_default ranges k e inside ∙ ap (λ n. get_or ranges n d) same) ∙ is

-- a range before one that begins at or below the address doesn't hold it
before_not : (ranges : List Range) (address k i : ℕ) (d : Range) → AreApart ranges → k < i → i < length ranges → (get_or ranges i d).first ≤ address →
    (b : Bool) → in_range (get_or ranges k d) address ≡ b → b ≡ false
before_not ranges address k i d apart order below begins false is = refl
before_not ranges address k i d apart order below begins true is =
    let up : (get_or ranges k d).first < (get_or ranges i d).first = apart.by_address k i d order below in
    let some : 0 < (get_or ranges i d).length = apart.filled i d below in
    let past : address < (get_or ranges k d).first + (get_or ranges k d).length = in_range_below (get_or ranges k d) address is in
    let twice : 2 ≤ held (get_or ranges i d).first ranges = held_twice (get_or ranges i d).first ranges k i d order below
    (in_range_is (get_or ranges k d) (get_or ranges i d).first (omega arith) (omega arith))
    (in_range_is (get_or ranges i d) (get_or ranges i d).first (omega arith) (omega arith)) in
    let once : held (get_or ranges i d).first ranges ≤ 1 = apart.disjoint (get_or ranges i d).first in
    absurd (omega arith)

-- what a binary search by the first address answers
pub record IsSearched (ranges : List Range) (address : ℕ) (r : Result ℕ ℕ) : Type 0 where
  pub found : IfOk r (λ i. in_ranges ranges address ≡ true)
  pub between : IfErr r (λ i. ((k : ℕ) (d : Range) → k < length ranges → k < i → (get_or ranges k d).first < address)
      × ((k : ℕ) (d : Range) → k < length ranges → i ≤ k → address < (get_or ranges k d).first))

module _ (ranges : List Range) (apart : AreApart ranges) (address : ℕ) where
  comparisons_rise : IsNonDecreasingBy (λ (r : Range). ordering_index (nat_cmp r.first address)) ranges
  comparisons_rise i j d order inside =
      let up : (get_or ranges i d).first ≤ (get_or ranges j d).first = grind (arith, apart.by_address i j d, λ (same : i ≡ j). ap (λ k. (get_or ranges k d).first) same) in
      grind (arith, nat_tests)

  pub searched : (r : Result ℕ ℕ) → IsSearchInRange r (length ranges) → IsBinarySearchResult (λ (range : Range). nat_cmp range.first address) ranges r → IsSearched ranges address r
  searched (Ok i) inside equal = record {
    found =
        let d : Range = record { first = 0; length = 1 } in
        let same : (get_or ranges i d).first ≡ address = ranked _ address _ (sym (equal d)) in
        let some : 0 < (get_or ranges i d).length = apart.filled i d inside in
        in_range_at ranges address i d inside (in_range_is (get_or ranges i d) address (omega arith) (omega arith));
    between = tt;
  }
  searched (Err i) inside parted = record {
    found = tt;
    between = (
      λ k d within less. let p = (parted comparisons_rise).0 k d in grind (arith, p, nat_tests),
      λ k d within more. let p = (parted comparisons_rise).1 k d in grind (arith, p, nat_tests),
    );
  }

-- the address lies below all ranges
pub below_all : (ranges : List Range) (address : ℕ) → ((k : ℕ) (d : Range) → k < length ranges → 0 ≤ k → address < (get_or ranges k d).first) →
    in_ranges ranges address ≡ false
below_all ranges address above = in_no_range ranges address (λ k d inside. in_range_not (get_or ranges k d) address (above k d inside (omega arith)))

-- the range before the place answers
pub before_place : (ranges : List Range) (address place : ℕ) → AreApart ranges → (d : Range) → place < length ranges →
    (get_or ranges place d).first < address →
    ((k : ℕ) (e : Range) → k < length ranges → place + 1 ≤ k → address < (get_or ranges k e).first) →
    in_range (get_or ranges place d) address ≡ in_ranges ranges address
before_place ranges address place apart d below begins above =
    sym (in_only_range ranges address place d below (λ k e inside either. by k e inside either) (in_range (get_or ranges place d) address) refl)
  where
    same_default : (rs : List Range) (k : ℕ) (e f : Range) → k < length rs → get_or rs k e ≡ get_or rs k f
    same_default [] k e f inside = absurd (omega arith)
    same_default (r ∷ rs) zero e f inside = refl
    same_default (r ∷ rs) (suc k) e f inside = same_default rs k e f (omega arith)

    by : (k : ℕ) (e : Range) → k < length ranges → (k < place) ⊎ (place < k) → in_range (get_or ranges k e) address ≡ false
    by k e inside (inl less) =
        before_not ranges address k place e apart less below
        (let same : get_or ranges place e ≡ get_or ranges place d = same_default ranges place e d below in
        let first : (get_or ranges place e).first ≡ (get_or ranges place d).first = ap (λ (r : Range). r.first) same in omega (arith, begins, first))
        (in_range (get_or ranges k e) address) refl
    by k e inside (inr more) = in_range_not (get_or ranges k e) address (above k e inside (omega arith))

-- the code's ranges, and the data's, are apart
pub code_apart : (areas : Areas) → AreRegions areas → AreApart areas.code
code_apart areas rules = record {
  by_address = rules.code_by_address;
  filled = rules.code_filled;
  disjoint = λ address.
      let once : held address (areas.code ++ areas.stack ∷ areas.data_ranges) ≤ 1 = rules.disjoint address in
      let front : held address (areas.code ++ areas.stack ∷ areas.data_ranges) ≡ held address areas.code + held address (areas.stack ∷ areas.data_ranges) = held-append address areas.code (areas.stack ∷ areas.data_ranges) in
      omega arith;
}

pub data_apart : (areas : Areas) → AreRegions areas → AreApart areas.data_ranges
data_apart areas rules = record {
  by_address = rules.data_by_address;
  filled = rules.data_filled;
  disjoint = λ address.
      let once : held address (areas.code ++ areas.stack ∷ areas.data_ranges) ≤ 1 = rules.disjoint address in
      let front : held address (areas.code ++ areas.stack ∷ areas.data_ranges) ≡ held address areas.code + held address (areas.stack ∷ areas.data_ranges) = held-append address areas.code (areas.stack ∷ areas.data_ranges) in
      let back : held address (areas.stack ∷ areas.data_ranges) ≡ cond (in_range areas.stack address) 1 0 + held address areas.data_ranges = sum_by-cons (λ r. cond (in_range r address) 1 0) areas.stack areas.data_ranges in
      omega arith;
}
