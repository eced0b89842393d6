-- Addresses that are marked in a table, one thing after another.
use Rattle.std.specs.Prelude.{◌≡◌, ℕ, ◌+◌, ◌<◌, ◌≤◌, Bool, true, false, ◌||◌, ◌&&◌, ◌==◌, nat_lt, nat_le, List, length, take, slice_index, if◌then◌else◌, refl}
use Rattle.std.specs.List.{list_any}
use Rattle.std.proofs.Common.{◌∙◌, ap, sym, subst, get_or, cond, arith}
use Rattle.std.proofs.Math.ListN.{set}
use Rattle.std.proofs.lemmas.Bool.Decides.{nat_tests}
use Rattle.std.proofs.lemmas.Grind.{get_or-set_at}
use Rattle.std.proofs.lemmas.List.{take_all, get_or-set_other}
use Rattle.std.proofs.lemmas.List.Folds.{list_any_more}
use Rattle.image80.specs.RegionMap.{IsMarked}
use Rattle.image80_source.specs.Placed.{AreMarksOf}

-- marked before or now
either : (here before : Bool) (mark old : ℕ) → cond here mark (cond before mark old) ≡ cond (before || here) mark old
either true true mark old = refl
either true false mark old = refl
either false true mark old = refl
either false false mark old = refl

-- the marks of a list's things so far, and of one more
module _ {X : Type 0} (test : X → ℕ → Bool) (xs : List X) where
  pub marks_more : (i : ℕ) (d : X) (before after : List ℕ) → i < length xs
      → AreMarksOf (λ address. list_any (λ x. test x address) (take i xs)) before → IsMarked before (test (get_or xs i d)) 1 after
      → AreMarksOf (λ address. list_any (λ x. test x address) (take (i + 1) xs)) after
  marks_more i d before after inside so_far now = record {
    whole = now.whole ∙ so_far.whole;
    marks_are = λ address.
        now.marks address
        ∙ ap (λ (old : ℕ). if test (get_or xs i d) address then 1 else old) (so_far.marks_are address)
        ∙ either (test (get_or xs i d) address) (list_any (λ x. test x address) (take i xs)) 1 0
        ∙ ap (λ (b : Bool). if b then 1 else 0) (sym (list_any_more (λ x. test x address) xs i d inside));
  }

  pub marks_all : (i : ℕ) (after : List ℕ) → length xs ≤ i
      → AreMarksOf (λ address. list_any (λ x. test x address) (take i xs)) after → AreMarksOf (λ address. list_any (λ x. test x address) xs) after
  marks_all i after past so_far = subst (λ (l : List X). AreMarksOf (λ address. list_any (λ x. test x address) l) after) (take_all i xs past) so_far

-- one more address of a span
pub set-more : (first address place old : ℕ) (marks : List ℕ) → first ≤ address → address < length marks →
    slice_index marks place ≡ (if nat_le first place && nat_lt place address then 1 else old) →
    slice_index (set marks address 1) place ≡ (if nat_le first place && nat_lt place (address + 1) then 1 else old)
set-more first address place old marks above inside before = grind (arith, nat_tests, before, get_or-set_at, get_or-set_other)

-- no address yet
pub set-none : (first address place old : ℕ) → address ≤ first → old ≡ (if nat_le first place && nat_lt place address then 1 else old)
set-none first address place old below = grind (arith, nat_tests)

-- all addresses of a span
pub set_all : (first count address : ℕ) (start after : List ℕ) → first + count ≤ address → address ≤ first + count →
    length after ≡ length start → ((place : ℕ) → slice_index after place ≡ (if nat_le first place && nat_lt place address then 1 else slice_index start place)) →
    IsMarked start (λ place. nat_le first place && nat_lt place (first + count)) 1 after
set_all first count address start after past within whole so_far = record {
  whole = whole;
  marks = λ place. let done : address ≡ first + count = omega arith in so_far place ∙ ap (λ (n : ℕ). if nat_le first place && nat_lt place n then 1 else slice_index start place) done;
}

-- what a mark says
pub mark_is : (test : ℕ → Bool) (marks : List ℕ) (address : ℕ) → AreMarksOf test marks → (slice_index marks address == 1) ≡ test address
mark_is test marks address are = ap (λ (m : ℕ). m == 1) (are.marks_are address) ∙ one_if (test address)
  where
    one_if : (b : Bool) → ((if b then 1 else 0) == 1) ≡ b
    one_if true = refl
    one_if false = refl
