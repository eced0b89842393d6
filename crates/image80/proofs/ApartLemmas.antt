-- Code, data and stack share no address.
use Rattle.std.proofs.Common.{◌≡◌, ℕ, ◌+◌, ◌≤◌, Bool, true, false, cond, List, [], ◌∷◌, ◌++◌, refl, arith}
use Rattle.std.specs.Prelude.{◌||◌}
use Rattle.std.proofs.lemmas.List.Sums.{sum_by-cons}
use Rattle.image80.specs.declared.range.Range.{Range}
use Rattle.image80.specs.Range.{in_range, in_ranges}
use Rattle.image80.specs.Regions.{Areas, AreRegions, in_code, in_data, held}
use Rattle.image80.proofs.DisjointLemmas.{held-append}

-- an address in the union of ranges is held by one of them
held_any : (address : ℕ) (ranges : List Range) → in_ranges ranges address ≡ true → 1 ≤ held address ranges
held_any address [] inside = cc
held_any address (r ∷ rs) inside =
    let sum : held address (r ∷ rs) ≡ cond (in_range r address) 1 0 + held address rs = sum_by-cons (λ range. cond (in_range range address) 1 0) r rs in
    rw sum
    ((elim (in_range r address) as (λ b. (b || in_ranges rs address) ≡ true → 1 ≤ cond b 1 0 + held address rs) [
      | true ↦ λ _. omega arith
      | false ↦ λ later. let some : 1 ≤ held address rs = held_any address rs later in omega arith
    ]) inside)

held_one : (address : ℕ) (range : Range) → in_range range address ≡ true → 1 ≤ held address (range ∷ [])
held_one address range inside = rw inside (omega arith)

-- a test that cannot be true is false
never : (b : Bool) → (b ≡ true → ⊥) → b ≡ false
never true wrong = absurd (wrong refl)
never false wrong = refl

-- how often an address is held by all ranges
whole_held : (areas : Areas) (address : ℕ) → AreRegions areas → (held address areas.code + held address (areas.stack ∷ [])) + held address areas.data_ranges ≤ 1
whole_held areas address rules =
    let once : held address (areas.code ++ areas.stack ∷ areas.data_ranges) ≤ 1 = rules.disjoint address in
    let front : held address (areas.code ++ areas.stack ∷ areas.data_ranges) ≡ held address areas.code + held address (areas.stack ∷ areas.data_ranges) = held-append address areas.code (areas.stack ∷ areas.data_ranges) in
    let back : held address (areas.stack ∷ areas.data_ranges) ≡ held address (areas.stack ∷ []) + held address areas.data_ranges = held-append address (areas.stack ∷ []) areas.data_ranges in
    omega arith

pub code_is_not_data : (areas : Areas) (address : ℕ) → AreRegions areas → in_code areas address ≡ true → in_data areas address ≡ false
code_is_not_data areas address rules code = never (in_data areas address) (λ data'.
    let whole : (held address areas.code + held address (areas.stack ∷ [])) + held address areas.data_ranges ≤ 1 = whole_held areas address rules in
    let one : 1 ≤ held address areas.code = held_any address areas.code code in
    let other : 1 ≤ held address areas.data_ranges = held_any address areas.data_ranges data' in
    omega arith)

pub code_is_not_stack : (areas : Areas) (address : ℕ) → AreRegions areas → in_code areas address ≡ true → in_range areas.stack address ≡ false
code_is_not_stack areas address rules code = never (in_range areas.stack address) (λ stack.
    let whole : (held address areas.code + held address (areas.stack ∷ [])) + held address areas.data_ranges ≤ 1 = whole_held areas address rules in
    let one : 1 ≤ held address areas.code = held_any address areas.code code in
    let other : 1 ≤ held address (areas.stack ∷ []) = held_one address areas.stack stack in
    omega arith)

pub data_is_not_stack : (areas : Areas) (address : ℕ) → AreRegions areas → in_data areas address ≡ true → in_range areas.stack address ≡ false
data_is_not_stack areas address rules data' = never (in_range areas.stack address) (λ stack.
    let whole : (held address areas.code + held address (areas.stack ∷ [])) + held address areas.data_ranges ≤ 1 = whole_held areas address rules in
    let one : 1 ≤ held address areas.data_ranges = held_any address areas.data_ranges data' in
    let other : 1 ≤ held address (areas.stack ∷ []) = held_one address areas.stack stack in
    omega arith)
