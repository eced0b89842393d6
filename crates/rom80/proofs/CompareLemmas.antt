-- The ranges of addresses at which bytes differ, as far as the bytes have been compared.
use Rattle.std.specs.Prelude.{◌≡◌, ◌≢◌, ℕ, zero, suc, ◌+◌, ◌-◌, ◌<◌, ◌≤◌, ◌==◌, nat_lt, ◌&&◌, ◌||◌, not, if◌then◌else◌, Bool, true, false, List, [], ◌∷◌, ◌++◌, length, filter, slice_index, refl}
use Rattle.std.specs.List.{AllByRecursion, AllPairs, list_any, range_with_len}
use Rattle.std.proofs.Common.{cond, subst, append-nil, ◌∙◌, ap, sym, arith, get_or, length-append}
use Rattle.std.proofs.lemmas.Bool.Decides.{nat_tests}
use Rattle.std.proofs.lemmas.List.Elements.{filter-append}
use Rattle.std.proofs.lemmas.List.Folds.{list_any-append}
use Rattle.std.proofs.lemmas.List.Quantifiers.{all_pairs_push}
use Rattle.rom80.specs.declared.comparing.Difference.{Difference}
use Rattle.rom80.specs.Rom.{is_among}
use Rattle.rom80.specs.Compare.{AreDifferences, LieWithin, in_difference, run_of}

or-false : (x : Bool) → (x || false) ≡ x
or-false true = refl
or-false false = refl

-- the bytes at an address below `first + at` differ
abbrev pub differs_below : (image dump : List ℕ) → (first at address : ℕ) → Bool
differs_below image dump first at address =
    is_among first at address && not (slice_index image (address - first) == slice_index dump (address - first))

-- a range lies from `first` on and ends below an address
abbrev pub Before : (first stop : ℕ) → Difference → Type 0
Before first stop d = (first ≤ d.first) × (d.first + d.length < stop)

-- the closed ranges lie before the run of bytes that differ up to here, with an address between
pub record RangesSoFar (image dump : List ℕ) (first at run : ℕ) (ranges : List Difference) : Type 0 where
  pub short : run ≤ at
  pub covered : (address : ℕ) → (list_any (in_difference address) ranges || is_among (first + at - run) run address) ≡ differs_below image dump first at address
  pub filled : AllByRecursion (λ (d : Difference). 0 < d.length) ranges
  pub within : AllByRecursion (Before first (first + at - run)) ranges
  pub apart : AllPairs (λ (d e : Difference). d.first + d.length < e.first) ranges

-- one more byte
module _ (image dump : List ℕ) (first at address : ℕ) where
  other : (address ≡ first + at → ⊥) → is_among first (at + 1) address ≡ is_among first at address
  other ne = grind (arith, nat_tests)

  none-here : address ≡ first + at → is_among first at address ≡ false
  none-here e = grind (arith, nat_tests)

  one-here : address ≡ first + at → is_among first (at + 1) address ≡ true
  one-here e = grind (arith, nat_tests)

  here : address ≡ first + at → differs_below image dump first at address ≡ false
  here e = rw (none-here e) refl

  here-more : address ≡ first + at → differs_below image dump first (at + 1) address ≡ not (slice_index image at == slice_index dump at)
  here-more e =
      let k : address - first ≡ at = omega arith in
      rw (one-here e, k) refl

  other-more : (address ≡ first + at → ⊥) → differs_below image dump first (at + 1) address ≡ differs_below image dump first at address
  other-more ne = rw (other ne) refl

  below_same : (b : Bool) → (address == first + at) ≡ b → (slice_index image at == slice_index dump at) ≡ true →
      differs_below image dump first at address ≡ differs_below image dump first (at + 1) address
  below_same true e same =
      let is : address ≡ first + at = grind (arith, nat_tests) in
      here is ∙ sym (here-more is ∙ ap not same)
  below_same false e same =
      let ne : address ≡ first + at → ⊥ = grind (arith, nat_tests) in
      sym (other-more ne)

  below_other : (b : Bool) → (address == first + at) ≡ b → (slice_index image at == slice_index dump at) ≡ false →
      (differs_below image dump first at address || b) ≡ differs_below image dump first (at + 1) address
  below_other true e differ =
      let is : address ≡ first + at = grind (arith, nat_tests) in
      ap (λ (x : Bool). x || true) (here is) ∙ sym (here-more is ∙ ap not differ)
  below_other false e differ =
      let ne : address ≡ first + at → ⊥ = grind (arith, nat_tests) in
      or-false (differs_below image dump first at address) ∙ sym (other-more ne)

-- the run as a list of ranges
run-covered : (b : Bool) (stop run address : ℕ) → nat_lt 0 run ≡ b → list_any (in_difference address) (run_of stop run) ≡ is_among (stop - run) run address
run-covered true stop run address e = rw e (or-false (is_among (stop - run) run address))
run-covered false stop run address e =
    let none : is_among (stop - run) run address ≡ false = grind (arith, nat_tests) in
    rw (e, none) refl

with-run : (stop run address : ℕ) (ranges : List Difference) →
    list_any (in_difference address) (ranges ++ run_of stop run) ≡ (list_any (in_difference address) ranges || is_among (stop - run) run address)
with-run stop run address ranges =
    list_any-append (in_difference address) ranges (run_of stop run)
    ∙ ap (λ (b : Bool). list_any (in_difference address) ranges || b) (run-covered (nat_lt 0 run) stop run address refl)

-- what holds of each range holds with the run
all-more : (P : Difference → Type 0) (stop run : ℕ) (ranges : List Difference) → AllByRecursion P ranges → (0 < run → P (record { first = stop - run; length = run })) → AllByRecursion P (ranges ++ run_of stop run)
all-more P stop run [] all this = elim (nat_lt 0 run) as (λ b. nat_lt 0 run ≡ b → AllByRecursion P (if b then record { first = stop - run; length = run } ∷ [] else [])) [ true ↦ λ e. (this (grind (arith, nat_tests)), tt) | false ↦ λ e. tt ] refl
all-more P stop run (d ∷ ds) all this = (all.0, all-more P stop run ds all.1 this)

all-weaker : (P Q : Difference → Type 0) (ranges : List Difference) → ((d : Difference) → P d → Q d) → AllByRecursion P ranges → AllByRecursion Q ranges
all-weaker P Q [] weaker all = tt
all-weaker P Q (d ∷ ds) weaker all = (weaker d all.0, all-weaker P Q ds weaker all.1)

all-at : (P : Difference → Type 0) (ranges : List Difference) (k : ℕ) (d : Difference) → k < length ranges → AllByRecursion P ranges → P (get_or ranges k d)
all-at P [] k d below all = absurd (omega arith)
all-at P (x ∷ xs) zero d below all = all.0
all-at P (x ∷ xs) (suc k) d below all = all-at P xs k d (omega arith) all.1

more-run : (x y z w : Bool) → w ≡ (y || z) → (x || w) ≡ ((x || y) || z)
more-run true y z w e = refl
more-run false y z w e = e

run-more : (first at run address : ℕ) → run ≤ at → is_among (first + (at + 1) - (run + 1)) (run + 1) address ≡ (is_among (first + at - run) run address || (address == first + at))
run-more first at run address short = grind (arith, nat_tests)

module _ (image dump : List ℕ) (first at run : ℕ) (ranges : List Difference) (so_far : RangesSoFar image dump first at run ranges) where
  closed : AllPairs (λ (d e : Difference). d.first + d.length < e.first) (ranges ++ run_of (first + at) run)
  closed = elim (nat_lt 0 run) as (λ b. AllPairs (λ (d e : Difference). d.first + d.length < e.first) (ranges ++ (if b then record { first = first + at - run; length = run } ∷ [] else []))) [
    | true ↦ all_pairs_push (λ (d e : Difference). d.first + d.length < e.first) ranges (record { first = first + at - run; length = run }) so_far.apart (λ k d below. (all-at (Before first (first + at - run)) ranges k d below so_far.within).1)
    | false ↦ rw (append-nil ranges) so_far.apart
  ]

  same_step : (slice_index image at == slice_index dump at) ≡ true → RangesSoFar image dump first (at + 1) 0 (ranges ++ run_of (first + at) run)
  same_step same = record {
    short = omega arith;
    covered = λ address.
        let none : is_among (first + (at + 1) - 0) 0 address ≡ false = grind (arith, nat_tests) in
        let short = so_far.short in
        ap (λ (b : Bool). list_any (in_difference address) (ranges ++ run_of (first + at) run) || b) none
        ∙ or-false _ ∙ with-run (first + at) run address ranges ∙ so_far.covered address
        ∙ below_same image dump first at address (address == first + at) refl same;
    filled = all-more (λ (d : Difference). 0 < d.length) (first + at) run ranges so_far.filled (λ more. more);
    within = all-more (Before first (first + (at + 1) - 0)) (first + at) run ranges (all-weaker (Before first (first + at - run)) (Before first (first + (at + 1) - 0)) ranges (λ d w. (w.0, omega (arith, w.1))) so_far.within) (λ more. let short = so_far.short in (omega arith, omega arith));
    apart = closed;
  }

  differ_step : (slice_index image at == slice_index dump at) ≡ false → RangesSoFar image dump first (at + 1) (run + 1) ranges
  differ_step differ = record {
    short = let short = so_far.short in omega arith;
    covered = λ address.
        let short = so_far.short in
        more-run (list_any (in_difference address) ranges) (is_among (first + at - run) run address) (address == first + at) (is_among (first + (at + 1) - (run + 1)) (run + 1) address) (run-more first at run address short)
        ∙ ap (λ (b : Bool). b || (address == first + at)) (so_far.covered address)
        ∙ below_other image dump first at address (address == first + at) refl differ;
    filled = so_far.filled;
    within = let same : first + (at + 1) - (run + 1) ≡ first + at - run = omega (arith, so_far.short) in subst (λ (n : ℕ). AllByRecursion (Before first n) ranges) (sym same) so_far.within;
    apart = so_far.apart;
  }

pub same_steps : (image dump : List ℕ) (first at run stop next : ℕ) (ranges more : List Difference) → RangesSoFar image dump first at run ranges
    → slice_index image at ≡ slice_index dump at → more ≡ ranges ++ run_of stop run → stop ≡ first + at → next ≡ 0 → RangesSoFar image dump first (at + 1) next more
same_steps image dump first at run stop next ranges more so_far same is stops none =
    let tested : (slice_index image at == slice_index dump at) ≡ true = grind (arith, nat_tests) in
    rw (is, stops, none) (same_step image dump first at run ranges so_far tested)

pub differ_steps : (image dump : List ℕ) (first at run next : ℕ) (ranges more : List Difference) → RangesSoFar image dump first at run ranges
    → slice_index image at ≢ slice_index dump at → more ≡ ranges → next ≡ run + 1 → RangesSoFar image dump first (at + 1) next more
differ_steps image dump first at run next ranges more so_far differ is one =
    let tested : (slice_index image at == slice_index dump at) ≡ false = grind (arith, nat_tests) in
    rw (is, one) (differ_step image dump first at run ranges so_far tested)

-- the ranges of all bytes
pub all_differences : (image dump : List ℕ) (first at run stop : ℕ) (ranges more : List Difference) → RangesSoFar image dump first at run ranges
    → at ≡ length dump → more ≡ ranges ++ run_of stop run → stop ≡ first + at → AreDifferences image dump first more
all_differences image dump first at run stop ranges more so_far past is stops =
    let made : AreDifferences image dump first (ranges ++ run_of (first + at) run) = record {
      covered = λ address. with-run (first + at) run address ranges ∙ so_far.covered address ∙ ap (λ (n : ℕ). differs_below image dump first n address) past;
      filled = all-more (λ (d : Difference). 0 < d.length) (first + at) run ranges so_far.filled (λ more. more);
      apart = closed image dump first at run ranges so_far;
    } in
    rw (is, stops) made

pub all_within : (image dump : List ℕ) (first at run stop : ℕ) (ranges more : List Difference) → RangesSoFar image dump first at run ranges
    → at ≡ length dump → more ≡ ranges ++ run_of stop run → stop ≡ first + at → AllByRecursion (LieWithin first (length dump)) more
all_within image dump first at run stop ranges more so_far past is stops =
    let short = so_far.short in
    let made : AllByRecursion (LieWithin first (length dump)) (ranges ++ run_of (first + at) run) =
    all-more (LieWithin first (length dump)) (first + at) run ranges (all-weaker (Before first (first + at - run)) (LieWithin first (length dump)) ranges (λ d w. record { begins = w.0; ends = omega (arith, w.1, past) }) so_far.within)
    (λ more. record { begins = omega arith; ends = omega (arith, past) }) in
    rw (is, stops) made

-- the same bytes among one more
range-more : (a n : ℕ) → range_with_len a (suc n) ≡ range_with_len a n ++ (a + n) ∷ []
range-more a zero = let same : a ≡ a + 0 = omega arith in ap (λ (x : ℕ). x ∷ []) same
range-more a (suc n) = let same : a + 1 + n ≡ a + suc n = omega arith in ap (λ (xs : List ℕ). a ∷ xs) (range-more (a + 1) n ∙ ap (λ (x : ℕ). range_with_len (a + 1) n ++ x ∷ []) same)

counted : (p : ℕ → Bool) (n : ℕ) → length (filter p (range_with_len 0 (n + 1))) ≡ length (filter p (range_with_len 0 n)) + (if p n then 1 else 0)
counted p n =
    let one : n + 1 ≡ suc n = omega arith in
    let zeros : 0 + n ≡ n = omega arith in
    let more : range_with_len 0 (n + 1) ≡ range_with_len 0 n ++ n ∷ [] = ap (range_with_len 0) one ∙ range-more 0 n ∙ ap (λ (x : ℕ). range_with_len 0 n ++ x ∷ []) zeros in
    ap (λ (xs : List ℕ). length (filter p xs)) more ∙ ap (λ (xs : List ℕ). length xs) (filter-append p (range_with_len 0 n) (n ∷ []))
    ∙ length-append (filter p (range_with_len 0 n)) (filter p (n ∷ []))
    ∙ ap (λ (k : ℕ). length (filter p (range_with_len 0 n)) + k) (elim (p n) as (λ b. length (cond b (n ∷ []) []) ≡ (if b then 1 else 0)) [ true ↦ refl | false ↦ refl ])

abbrev pub same_at : (image dump : List ℕ) → ℕ → Bool
same_at image dump k = slice_index image k == slice_index dump k

pub count_more : (image dump : List ℕ) (at same next : ℕ) → same ≡ length (filter (same_at image dump) (range_with_len 0 at)) → slice_index image at ≡ slice_index dump at → next ≡ same + 1
    → next ≡ length (filter (same_at image dump) (range_with_len 0 (at + 1)))
count_more image dump at same next so_far is one =
    let tested : same_at image dump at ≡ true = grind (arith, nat_tests) in
    one ∙ ap (λ (n : ℕ). n + 1) so_far ∙ sym (counted (same_at image dump) at ∙ ap (λ (b : Bool). length (filter (same_at image dump) (range_with_len 0 at)) + (if b then 1 else 0)) tested)

pub count_no_more : (image dump : List ℕ) (at same next : ℕ) → same ≡ length (filter (same_at image dump) (range_with_len 0 at)) → slice_index image at ≢ slice_index dump at → next ≡ same
    → next ≡ length (filter (same_at image dump) (range_with_len 0 (at + 1)))
count_no_more image dump at same next so_far differ is =
    let tested : same_at image dump at ≡ false = grind (arith, nat_tests) in
    let none : length (filter (same_at image dump) (range_with_len 0 at)) + 0 ≡ length (filter (same_at image dump) (range_with_len 0 at)) = omega arith in
    is ∙ so_far ∙ sym (counted (same_at image dump) at ∙ ap (λ (b : Bool). length (filter (same_at image dump) (range_with_len 0 at)) + (if b then 1 else 0)) tested ∙ none)
