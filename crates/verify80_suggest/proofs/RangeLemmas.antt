-- Ranges that cover what passes a test.
use Rattle.std.proofs.Common.{◌≡◌, ◌<◌, ◌≤◌, ◌+◌, inl, inr, ℕ, Bool, true, false, List, [], ◌∷◌, ◌++◌, All, Contains, length, get_or, refl, sym, ◌∙◌, ap, subst, arith, cond, true≢false}
use Rattle.std.specs.Prelude.{◌&&◌, ◌||◌, nat_le, nat_lt, IsPermutation}
use Rattle.std.proofs.lemmas.Bool.{cases_eq}
use Rattle.std.proofs.lemmas.Bool.Decides.{nat_tests}
use Rattle.std.proofs.lemmas.Grind.{common_steps}
use Rattle.std.proofs.lemmas.List.Elements.{All-push, Contains-push_cases}
use Rattle.std.proofs.lemmas.List.{get_or_append_left, length-append}
use Rattle.std.proofs.Math.Seq.{get_or-append_seam}
use Rattle.std.proofs.lemmas.List.Folds.{list_any-append}
use Rattle.std.proofs.lemmas.List.Sums.{sum_by-append, sum_by-cons}
use Rattle.std.proofs.lemmas.List.Sorted.{list_any-IsPermutation, Contains-permutation, IsPermutation-sym}
use Rattle.image80.specs.declared.range.Range.{Range}
use Rattle.image80.specs.Range.{in_range, in_ranges, IsInMemory}
use Rattle.image80.specs.Regions.{AreDisjoint, held}
use Rattle.verify80_cases.specs.Marks.{AreMarks, marked}
use Rattle.verify80_suggest.specs.Ranges.{Covers, CoversBelow, IsPassed}

-- what holds of each element holds of one that is contained
pub all_has : {X : Type 0} (P : X → Type 0) (xs : List X) (x : X) → All P xs → Contains xs x → P x
all_has P xs x all has = subst P has.2 (all has.0 x has.1)

-- how many ranges hold an address, of two lists and of a list that covers it not
pub held_both : (address : ℕ) (xs ys : List Range) → held address (xs ++ ys) ≡ held address xs + held address ys
held_both address xs ys = sum_by-append (λ r. cond (in_range r address) 1 0) xs ys

pub held_first : (address : ℕ) (range : Range) (ranges : List Range) → held address (range ∷ ranges) ≡ cond (in_range range address) 1 0 + held address ranges
held_first address range ranges = sum_by-cons (λ r. cond (in_range r address) 1 0) range ranges

either : (a b : Bool) → (a || b) ≡ false → (a ≡ false) × (b ≡ false)
either true b e = absurd (true≢false e)
either false b e = (refl, e)

pub held_none : (address : ℕ) (ranges : List Range) → in_ranges ranges address ≡ false → held address ranges ≡ 0
held_none address [] none = refl
held_none address (r ∷ rs) none =
    let parts = either (in_range r address) (in_ranges rs address) none in
    let rest : held address rs ≡ 0 = held_none address rs parts.1 in
    rw (held_first address r rs, parts.0, rest) refl

module _ (test : ℕ → Bool) (limit : ℕ) (ranges : List Range) (cover : CoversBelow test limit ranges) where
  -- the next address doesn't pass
  pub cover_passed : test limit ≡ false → CoversBelow test (limit + 1) ranges
  cover_passed fails = record {
    exact = λ address. cover.exact address ∙ step address (nat_lt address limit) (nat_lt address (limit + 1)) refl refl;
    joined = cover.joined;
    filled = cover.filled;
    in_memory = cover.in_memory;
    apart = cover.apart;
    passed = λ k d inside. let p = cover.passed k d inside in record {
      within = omega (arith, p.within);
      ends = λ below same. absurd (omega (arith, p.within, same));
    };
  }
    where
      step : (address : ℕ) (a b : Bool) → nat_lt address limit ≡ a → nat_lt address (limit + 1) ≡ b → (a && test address) ≡ (b && test address)
      step address true true is is' = refl
      step address false false is is' = refl
      step address true false is is' = absurd (grind (arith, nat_tests))
      step address false true is is' =
          let same : address ≡ limit = grind (arith, nat_tests) in
          sym (ap test same ∙ fails)

  -- a given number of addresses from the limit on pass, and are a range more
  pub cover_more : (range : Range) → range.first ≡ limit → 0 < range.length → IsInMemory range →
      ((address : ℕ) → limit ≤ address → address < limit + range.length → test address ≡ true) →
      (range.length < 65535 → limit + range.length < 65536 → test (limit + range.length) ≡ false) →
      CoversBelow test (limit + range.length) (ranges ++ range ∷ [])
  cover_more range here some inside pass ends = record {
    exact = exact;
    joined = joined;
    filled = All-push (λ range. 0 < range.length) ranges range cover.filled some;
    in_memory = All-push IsInMemory ranges range cover.in_memory inside;
    apart = apart;
    passed = All-push (IsPassed test (limit + range.length)) ranges range
        (λ k d within. let p = cover.passed k d within in record {
          within = omega (arith, p.within);
          ends = λ below same. absurd (omega (arith, p.within, same, some));
        })
        (record { within = omega (arith, here); ends = λ below same passes. longest passes below (nat_lt range.length 65535) refl });
  }
    where
      step : (address : ℕ) (a b c e : Bool) → nat_lt address limit ≡ a → nat_le range.first address ≡ b → nat_lt address (range.first + range.length) ≡ c →
          nat_lt address (limit + range.length) ≡ e → ((a && test address) || ((b && c) || false)) ≡ (e && test address)
      step address true true c e is1 is2 is3 is4 = absurd (grind (arith, nat_tests, here))
      step address true false c true is1 is2 is3 is4 = or_false (test address)
        where
          or_false : (t : Bool) → (t || false) ≡ t
          or_false true = refl
          or_false false = refl
      step address true false c false is1 is2 is3 is4 = absurd (grind (arith, nat_tests, here))
      step address false true true true is1 is2 is3 is4 = sym (pass address (grind (arith, nat_tests)) (grind (arith, nat_tests)))
      step address false true true false is1 is2 is3 is4 = absurd (grind (arith, nat_tests, here))
      step address false true false true is1 is2 is3 is4 = absurd (grind (arith, nat_tests, here))
      step address false true false false is1 is2 is3 is4 = refl
      step address false false c true is1 is2 is3 is4 = absurd (grind (arith, nat_tests, here))
      step address false false c false is1 is2 is3 is4 = refl

      exact : (address : ℕ) → in_ranges (ranges ++ range ∷ []) address ≡ (nat_lt address (limit + range.length) && test address)
      exact address = list_any-append (λ r. in_range r address) ranges (range ∷ [])
          ∙ ap (λ b. b || (in_range range address || false)) (cover.exact address)
          ∙ step address (nat_lt address limit) (nat_le range.first address) (nat_lt address (range.first + range.length)) (nat_lt address (limit + range.length)) refl refl refl refl

      longest : test (limit + range.length) ≡ true → limit + range.length < 65536 → (b : Bool) → nat_lt range.length 65535 ≡ b → range.length ≡ 65535
      longest passes below true is = absurd (true≢false (sym passes ∙ ends (grind (arith, nat_tests)) below))
      longest passes below false is = let full : 65535 ≤ range.length = grind (arith, nat_tests) in omega (arith, full, inside.length)

      -- no address is held twice
      apart : AreDisjoint (ranges ++ range ∷ [])
      apart address = rw (held_both address ranges (range ∷ []), held_first address range []) (both (nat_lt address limit) (in_range range address) refl refl)
        where
          both : (a b : Bool) → nat_lt address limit ≡ a → in_range range address ≡ b → held address ranges + (cond b 1 0 + 0) ≤ 1
          both a false is1 is2 = let one = cover.apart address in omega (arith, one)
          both true true is1 is2 = absurd (grind (arith, nat_tests, common_steps, here))
          both false true is1 is2 =
              let none : in_ranges ranges address ≡ false = cover.exact address ∙ ap (λ b. b && test address) is1 in
              let zero = held_none address ranges none in omega (arith, zero)

      joined : (a b : Range) → Contains (ranges ++ range ∷ []) a → Contains (ranges ++ range ∷ []) b → a.first + a.length ≡ b.first → a.length ≡ 65535
      joined a b has has' touch = elim (Contains-push_cases ranges range a has) [
        | inl old ↦
            let p = all_has (IsPassed test limit) ranges a cover.passed old in
            elim (Contains-push_cases ranges range b has') [
              | inl old' ↦ cover.joined a b old old' touch
              | inr is' ↦
                  let begins : b.first ≡ limit = ap (λ (r : Range). r.first) (sym is') ∙ here in
                  p.ends (omega (arith, here, inside.first)) (touch ∙ begins) (pass limit (omega arith) (omega (arith, some)))
            ]
        | inr is ↦
            let first : a.first ≡ limit = ap (λ (r : Range). r.first) (sym is) ∙ here in
            let long : 0 < a.length = subst (λ (r : Range). 0 < r.length) is some in
            elim (Contains-push_cases ranges range b has') [
              | inl old' ↦
                  let p = all_has (IsPassed test limit) ranges b cover.passed old' in
                  let f = all_has (λ (r : Range). 0 < r.length) ranges b cover.filled old' in
                  absurd (omega (arith, p.within, f, touch, first, long))
              | inr is' ↦
                  let first' : b.first ≡ limit = ap (λ (r : Range). r.first) (sym is') ∙ here in
                  absurd (omega (arith, touch, first, first', long))
            ]
      ]

-- ranges of the marks of a test cover what passes it
pub covers_marks : (test : ℕ → Bool) (marks : List Bool) (ranges : List Range) → AreMarks test 65536 marks → CoversBelow (marked marks) 65536 ranges → Covers test ranges
covers_marks test marks ranges are cover = record {
  exact = λ address. cover.exact address ∙ step address (nat_lt address 65536) refl;
  joined = cover.joined;
}
  where
    step : (address : ℕ) (b : Bool) → nat_lt address 65536 ≡ b → (b && marked marks address) ≡ (b && test address)
    step address true is = are.exact address (grind (arith, nat_tests))
    step address false is = refl

-- in another order they do too
pub covers_permuted : (test : ℕ → Bool) (ranges others : List Range) → IsPermutation ranges others → Covers test ranges → Covers test others
covers_permuted test ranges others permuted cover = record {
  exact = λ address. sym (list_any-IsPermutation (λ r. in_range r address) ranges others permuted) ∙ cover.exact address;
  joined = λ a b has has'. cover.joined a b (back a has) (back b has');
}
  where
    back : (a : Range) → Contains others a → Contains ranges a
    back a has = Contains-permutation others ranges a (IsPermutation-sym ranges others permuted) has

-- a test that says the same is covered too
pub covers_same : (test other : ℕ → Bool) (ranges : List Range) → Covers test ranges → ((address : ℕ) → address < 65536 → test address ≡ other address) → Covers other ranges
covers_same test other ranges cover same = record {
  exact = λ address. cover.exact address ∙ step address (nat_lt address 65536) refl;
  joined = cover.joined;
}
  where
    step : (address : ℕ) (b : Bool) → nat_lt address 65536 ≡ b → (b && test address) ≡ (b && other address)
    step address true is = same address (grind (arith, nat_tests))
    step address false is = refl

-- a mark more
pub marks_more : (test : ℕ → Bool) (limit : ℕ) (marks : List Bool) (mark : Bool) → AreMarks test limit marks → mark ≡ test limit → AreMarks test (limit + 1) (marks ++ mark ∷ [])
marks_more test limit marks mark are is = record {
  size = length-append marks (mark ∷ []) ∙ ap (λ n. n + 1) are.size;
  exact = λ address below. elim (cases_eq address (length marks)) [
    | inl e ↦ ap (λ n. get_or (marks ++ mark ∷ []) n false) e ∙ get_or-append_seam marks mark [] false ∙ is ∙ ap test (sym are.size ∙ sym e)
    | inr other ↦
        let less : address < length marks = omega (arith, below, are.size, other) in
        get_or_append_left marks (mark ∷ []) false address less ∙ are.exact address (omega (arith, less, are.size))
  ];
}

pub covers_below : (test : ℕ → Bool) (ranges : List Range) → CoversBelow test 65536 ranges → Covers test ranges
covers_below test ranges cover = record { exact = cover.exact; joined = cover.joined }
