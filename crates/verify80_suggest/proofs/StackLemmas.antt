-- A stack below an address, and the ranges beside it.
use Rattle.std.proofs.Common.{◌≡◌, ◌<◌, ◌≤◌, ◌+◌, ◌-◌, ◌%◌, ◌⊎◌, inl, inr, ℕ, Bool, true, false, true≢false, List, [], ◌∷◌, ◌++◌, refl, sym, ◌∙◌, ap, subst, arith, cond}
use Rattle.std.specs.Prelude.{◌&&◌, ◌||◌, not, nat_le, nat_lt, Option, Some, None, if◌then◌else◌}
use Rattle.std.proofs.lemmas.Bool.Decides.{nat_tests}
use Rattle.image80.specs.declared.range.Range.{Range}
use Rattle.image80.specs.Range.{IsInMemory, in_range, in_ranges}
use Rattle.image80.specs.Regions.{AreDisjoint, Areas, Arranges, held}
use Rattle.verify80_suggest.specs.declared.setters.Setter.{Setter}
use Rattle.verify80_cases.specs.Marks.{AreMarks, marked}
use Rattle.verify80_suggest.specs.Ranges.{Covers, CoversBelow}
use Rattle.verify80_suggest.specs.Stack.{IsBelow, IsStack, end_of}
use Rattle.verify80_suggest.specs.Suggestion.{Found, IsArranged, is_data, is_taken}
use Rattle.verify80_suggest.proofs.RangeLemmas.{covers_below, covers_marks, covers_permuted, held_both, held_first, held_none}

-- by a test that says the same
pub below_same : (taken other : ℕ → Bool) («end» wanted : ℕ) (stack : Range) → ((address : ℕ) → address < 65536 → taken address ≡ other address) →
    IsBelow taken «end» wanted stack → IsBelow other «end» wanted stack
below_same taken other «end» wanted stack same below = record {
  place = below.place;
  small = below.small;
  inside = below.inside;
  fits = below.fits;
  free = λ k less. sym (same («end» - 1 - k) (omega (arith, below.small, less, below.inside))) ∙ below.free k less;
  few = below.few;
  cut = λ less inside short. sym (same («end» - 1 - stack.length) (omega (arith, below.small, inside))) ∙ below.cut less inside short;
}

pub stack_same : (taken other : ℕ → Bool) (first : Option Setter) (wanted : ℕ) (stack : Range) → ((address : ℕ) → address < 65536 → taken address ≡ other address) →
    IsStack taken first wanted stack → IsStack other first wanted stack
stack_same taken other None wanted stack same is = is
stack_same taken other (Some setter) wanted stack same is = below_same taken other (end_of setter.word) wanted stack same is

-- where it is
below_place : (taken : ℕ → Bool) («end» wanted : ℕ) (stack : Range) → IsBelow taken «end» wanted stack → 0 < stack.length → stack.first ≡ «end» - stack.length
below_place taken «end» wanted stack below some = below.place ∙ modulo («end» - stack.length) (omega (arith, below.small, some, below.inside))
  where
    modulo : (n : ℕ) → n < 65536 → n % 65536 ≡ n
    modulo n less = omega (arith, less)

pub stack_in_memory : (taken : ℕ → Bool) (first : Option Setter) (wanted : ℕ) (stack : Range) → IsStack taken first wanted stack → IsInMemory stack
stack_in_memory taken None wanted stack is = subst IsInMemory (sym is) (record { first = omega arith; length = omega arith; «end» = omega arith })
stack_in_memory taken (Some setter) wanted stack is = cases (nat_lt 0 stack.length) refl
  where
    low : stack.first < 65536
    low = omega (arith, is.place)

    cases : (b : Bool) → nat_lt 0 stack.length ≡ b → IsInMemory stack
    cases true i =
        let some : 0 < stack.length = grind (arith, nat_tests) in
        let place = below_place taken (end_of setter.word) wanted stack is some in
        record { first = low; length = is.fits; «end» = omega (arith, place, is.small, is.inside) }
    cases false i =
        let none : stack.length ≤ 0 = grind (arith, nat_tests) in
        record { first = low; length = is.fits; «end» = omega (arith, low, none) }

-- none of its bytes is taken
pub stack_free : (taken : ℕ → Bool) (first : Option Setter) (wanted : ℕ) (stack : Range) → IsStack taken first wanted stack → (address : ℕ) → in_range stack address ≡ true → taken address ≡ false
stack_free taken None wanted stack is address inside = absurd (none (nat_le 0 address) (nat_lt address (0 + 0)) refl refl (subst (λ (s : Range). in_range s address ≡ true) is inside))
  where
    none : (x y : Bool) → nat_le 0 address ≡ x → nat_lt address (0 + 0) ≡ y → (x && y) ≡ true → ⊥
    none true true i j e = absurd (grind (arith, nat_tests))
    none true false i j e = absurd (true≢false (sym e))
    none false y i j e = absurd (true≢false (sym e))
stack_free taken (Some setter) wanted stack is address inside = both (nat_le stack.first address) (nat_lt address (stack.first + stack.length)) refl refl inside
  where
    «end» : ℕ
    «end» = end_of setter.word

    both : (x y : Bool) → nat_le stack.first address ≡ x → nat_lt address (stack.first + stack.length) ≡ y → (x && y) ≡ true → taken address ≡ false
    both false y i j e = absurd (true≢false (sym e))
    both true false i j e = absurd (true≢false (sym e))
    both true true i j e =
        let low : stack.first ≤ address = grind (arith, nat_tests) in
        let high : address < stack.first + stack.length = grind (arith, nat_tests) in
        let place = below_place taken (end_of setter.word) wanted stack is (omega (arith, low, high)) in
        let k = end_of setter.word - 1 - address in
        let here : end_of setter.word - 1 - k ≡ address = omega (arith, place, low, high, is.inside) in
        subst (λ a. taken a ≡ false) here (is.free k (omega (arith, place, low, high, is.inside)))

-- code, stack and data of what is found share no address
found_apart : (found : Found) (ram : List Range) (first : Option Setter) (wanted : ℕ) (code : List Range) (stack : Range) (ranges : List Range) →
    Covers (marked found.code) code → AreDisjoint code → IsStack (is_taken found) first wanted stack →
    Covers (is_data found ram stack) ranges → AreDisjoint ranges → AreDisjoint (code ++ stack ∷ ranges)
found_apart found ram first wanted code stack ranges covers apart is covers' apart' address =
    rw (held_both address code (stack ∷ ranges), held_first address stack ranges) (count (in_ranges code address) (in_range stack address) refl refl)
  where
    is_covered : Bool
    is_covered = marked found.code address

    of_code : (b x : Bool) → true ≡ (b && x) → x ≡ true
    of_code true x e = sym e
    of_code false x e = absurd (true≢false e)

    with_covered : (t : Bool) → is_covered ≡ true → (t || is_covered) ≡ true
    with_covered true e = refl
    with_covered false e = e

    -- neither of an address that is covered or in the stack
    not_data : (c t x y : Bool) → (x ≡ true) ⊎ (y ≡ true) → (c && (t && (not x && not y))) ≡ false
    not_data false t x y e = refl
    not_data true false x y e = refl
    not_data true true true y e = refl
    not_data true true false true e = refl
    not_data true true false false (inl e) = absurd (true≢false (sym e))
    not_data true true false false (inr e) = absurd (true≢false (sym e))

    no_data : (is_covered ≡ true) ⊎ (in_range stack address ≡ true) → held address ranges ≡ 0
    no_data e = held_none address ranges (covers'.exact address ∙ not_data (nat_lt address 65536) _ is_covered (in_range stack address) e)

    count : (b s : Bool) → in_ranges code address ≡ b → in_range stack address ≡ s → held address code + (cond s 1 0 + held address ranges) ≤ 1
    count true s is_code is_stack =
        let here : is_covered ≡ true = of_code (nat_lt address 65536) is_covered (sym is_code ∙ covers.exact address) in
        let one = apart address in
        let none = no_data (inl here) in
        lone s is_stack here one none
      where
        lone : (t : Bool) → in_range stack address ≡ t → is_covered ≡ true → held address code ≤ 1 → held address ranges ≡ 0 → held address code + (cond t 1 0 + held address ranges) ≤ 1
        lone false i here one none = omega (arith, one, none)
        lone true i here one none = absurd (true≢false (sym (with_covered (marked found.bytes address || marked found.named address) here) ∙ stack_free (is_taken found) first wanted stack is address i))
    count false true is_code is_stack =
        let zero = held_none address code is_code in
        let none = no_data (inr is_stack) in
        omega (arith, zero, none)
    count false false is_code is_stack =
        let zero = held_none address code is_code in
        let one = apart' address in
        omega (arith, zero, one)

-- what is arranged of these ranges
arranged : (found : Found) (ram : List Range) (wanted : ℕ) (code : List Range) (stack : Range) (ranges : List Range) (areas : Areas) →
    CoversBelow (marked found.code) 65536 code → IsStack (is_taken found) found.first wanted stack → Covers (is_data found ram stack) ranges →
    Arranges code stack ranges areas → IsArranged found [] ram wanted areas
arranged found ram wanted code stack ranges areas covers is covers' are = record {
  code = covers_permuted (marked found.code) code areas.code are.same_code (covers_below (marked found.code) code covers);
  stack = subst (IsStack (is_taken found) found.first wanted) (sym are.same_stack) is;
  data_ranges = subst (λ s. Covers (is_data found ram s) areas.data_ranges) (sym are.same_stack) (covers_permuted (is_data found ram stack) ranges areas.data_ranges are.same_data covers');
  cases = are.no_cases;
  rules = are.rules;
}

-- ranges of what is found, as it is kept, and of the tables that are made of it, as they are lent
module _ (found kept : Found) (ram : List Range) (wanted : ℕ) (code : List Range) (stack : Range) (ranges : List Range) (taken marks lent_covered lent_taken lent_marks : List Bool)
    (kept_is : kept ≡ found) (covered_is : lent_covered ≡ kept.code) (taken_is : lent_taken ≡ taken) (marks_is : lent_marks ≡ marks)
    (covers : CoversBelow (marked lent_covered) 65536 code) (taken_exact : AreMarks (is_taken found) 65536 taken) (is : IsStack (marked lent_taken) kept.first wanted stack)
    (marks_exact : AreMarks (is_data found ram stack) 65536 marks) (below : CoversBelow (marked lent_marks) 65536 ranges) where
  code_covers : CoversBelow (marked found.code) 65536 code
  code_covers = subst (λ m. CoversBelow (marked m) 65536 code) (covered_is ∙ ap (λ (f : Found). f.code) kept_is) covers

  stack_is : IsStack (is_taken found) found.first wanted stack
  stack_is = stack_same (marked taken) (is_taken found) found.first wanted stack taken_exact.exact
      (subst (λ (f : Found). IsStack (marked taken) f.first wanted stack) kept_is (subst (λ m. IsStack (marked m) kept.first wanted stack) taken_is is))

  data_covers : CoversBelow (marked marks) 65536 ranges
  data_covers = subst (λ m. CoversBelow (marked m) 65536 ranges) marks_is below

  -- none shares an address with another
  pub ranges_apart : AreDisjoint (code ++ stack ∷ ranges)
  ranges_apart = found_apart found ram found.first wanted code stack ranges (covers_below (marked found.code) code code_covers) code_covers.apart stack_is
      (covers_marks (is_data found ram stack) marks ranges marks_exact data_covers) data_covers.apart

  pub ranges_arranged : (areas : Areas) → Arranges code stack ranges areas → IsArranged found [] ram wanted areas
  ranges_arranged areas = arranged found ram wanted code stack ranges areas code_covers stack_is (covers_marks (is_data found ram stack) marks ranges marks_exact data_covers)

-- beside an empty range and none
pub apart_alone : (code ranges : List Range) → AreDisjoint code → ranges ≡ [] → AreDisjoint (code ++ record { first = 0; length = 0 } ∷ ranges)
apart_alone code ranges apart none address =
    rw (none, held_both address code (empty ∷ []), held_first address empty []) (count (nat_le 0 address) (nat_lt address (0 + 0)) refl refl)
  where
    empty : Range
    empty = record { first = 0; length = 0 }

    count : (x y : Bool) → nat_le 0 address ≡ x → nat_lt address (0 + 0) ≡ y → held address code + (cond (x && y) 1 0 + 0) ≤ 1
    count true true i j = absurd (grind (arith, nat_tests))
    count true false i j = let one = apart address in omega (arith, one)
    count false y i j = let one = apart address in omega (arith, one)

-- sixteen, or more
pub least_of : (bytes : ℕ) → bytes ≤ 16 → 16 ≡ (if nat_le bytes 16 then 16 else bytes)
least_of bytes few = step (nat_le bytes 16) refl
  where
    step : (b : Bool) → nat_le bytes 16 ≡ b → 16 ≡ (if b then 16 else bytes)
    step true i = refl
    step false i = absurd (grind (arith, nat_tests))

pub more_of : (bytes : ℕ) → 16 < bytes → bytes ≡ (if nat_le bytes 16 then 16 else bytes)
more_of bytes many = step (nat_le bytes 16) refl
  where
    step : (b : Bool) → nat_le bytes 16 ≡ b → bytes ≡ (if b then 16 else bytes)
    step true i = absurd (grind (arith, nat_tests))
    step false i = refl
