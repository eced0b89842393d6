-- Ranges that are marked in a map, one after another.
use Rattle.std.specs.Prelude.{◌≡◌, ℕ, ◌+◌, ◌<◌, ◌≤◌, Bool, true, false, ◌||◌, ◌&&◌, ◌==◌, nat_lt, nat_le, List, ◌∷◌, length, take, slice_index, if◌then◌else◌, refl, All}
use Rattle.std.proofs.Common.{◌∙◌, ap, sym, subst, get_or, cond, arith}
use Rattle.std.proofs.Math.ListN.{set}
use Rattle.std.proofs.Math.Seq.{take-append_seam, drop-append_seam}
use Rattle.std.proofs.lemmas.Bool.Decides.{nat_tests}
use Rattle.std.proofs.lemmas.Grind.{get_or-set_at}
use Rattle.std.proofs.lemmas.List.{take_all, get_or-set_other}
use Rattle.std.proofs.lemmas.List.Elements.{All-take, All-drop, All-tail}
use Rattle.std.proofs.lemmas.List.Folds.{list_any_more}
use Rattle.image80.specs.declared.range.Range.{Range}
use Rattle.image80.specs.Range.{in_range, in_ranges, IsInMemory}
use Rattle.image80.specs.RegionMap.{IsMarked, Maps}
use Rattle.image80.specs.Regions.{Areas, AreRegions, all_ranges, in_code, in_data}
use Rattle.image80.proofs.ApartLemmas.{code_is_not_data}

-- marked before or now
either : (here before : Bool) (mark old : ℕ) → cond here mark (cond before mark old) ≡ cond (before || here) mark old
either true true mark old = refl
either true false mark old = refl
either false true mark old = refl
either false false mark old = refl

-- one more range
pub marked-more : (ranges : List Range) (i : ℕ) (d : Range) (mark : ℕ) (start before after : List ℕ) → i < length ranges →
    IsMarked start (in_ranges (take i ranges)) mark before → IsMarked before (in_range (get_or ranges i d)) mark after → IsMarked start (in_ranges (take (i + 1) ranges)) mark after
marked-more ranges i d mark start before after inside so_far now = record {
  whole = now.whole ∙ so_far.whole;
  marks = λ address.
      now.marks address
      ∙ ap (λ (old : ℕ). if in_range (get_or ranges i d) address then mark else old) (so_far.marks address)
      ∙ either (in_range (get_or ranges i d) address) (in_ranges (take i ranges) address) mark (slice_index start address)
      ∙ ap (λ (b : Bool). if b then mark else slice_index start address) (sym (list_any_more (λ r. in_range r address) ranges i d inside));
}

-- all ranges
pub marked_all : (ranges : List Range) (i : ℕ) (mark : ℕ) (start after : List ℕ) → length ranges ≤ i →
    IsMarked start (in_ranges (take i ranges)) mark after → IsMarked start (in_ranges ranges) mark after
marked_all ranges i mark start after past so_far = subst (λ (l : List Range). IsMarked start (in_ranges l) mark after) (take_all i ranges past) so_far

-- what two marks say of an address that is at most one of both
code_is : (code data' : Bool) → (code ≡ true → data' ≡ false) → (cond data' 2 (cond code 1 0) == 1) ≡ code
code_is true true apart = absurd (cc (apart refl))
code_is true false apart = refl
code_is false true apart = refl
code_is false false apart = refl

data_is : (code data' : Bool) → (cond data' 2 (cond code 1 0) == 2) ≡ data'
data_is true true = refl
data_is true false = refl
data_is false true = refl
data_is false false = refl

-- the code marked, and then the data
pub maps : (areas : Areas) (zeros first second : List ℕ) → AreRegions areas → ((address : ℕ) → slice_index zeros address ≡ 0) →
    IsMarked zeros (in_ranges areas.code) 1 first → IsMarked first (in_ranges areas.data_ranges) 2 second → Maps areas second
maps areas zeros first second rules none code data' =
    let mark : (address : ℕ) → slice_index second address ≡ cond (in_data areas address) 2 (cond (in_code areas address) 1 0) = λ address.
    data'.marks address
    ∙ ap (λ (old : ℕ). if in_data areas address then 2 else old) (code.marks address ∙ ap (λ (old : ℕ). if in_code areas address then 1 else old) (none address)) in
    record {
      code = λ address. ap (λ (n : ℕ). n == 1) (mark address) ∙ code_is (in_code areas address) (in_data areas address) (code_is_not_data areas address rules);
      data_ranges = λ address. ap (λ (n : ℕ). n == 2) (mark address) ∙ data_is (in_code areas address) (in_data areas address);
    }

-- the ranges of regions lie in memory
pub code_in_memory : (areas : Areas) → AreRegions areas → All IsInMemory areas.code
code_in_memory areas rules = subst (λ (l : List Range). All IsInMemory l) (take-append_seam areas.code (areas.stack ∷ areas.data_ranges)) (All-take IsInMemory (length areas.code) (all_ranges areas) rules.in_memory)

pub data_in_memory : (areas : Areas) → AreRegions areas → All IsInMemory areas.data_ranges
data_in_memory areas rules = All-tail IsInMemory areas.stack areas.data_ranges (subst (λ (l : List Range). All IsInMemory l) (drop-append_seam areas.code (areas.stack ∷ areas.data_ranges)) (All-drop IsInMemory (length areas.code) (all_ranges areas) rules.in_memory))

-- one more address
pub set-more : (first address place mark old : ℕ) (marks : List ℕ) → first ≤ address → address < length marks →
    slice_index marks place ≡ (if nat_le first place && nat_lt place address then mark else old) →
    slice_index (set marks address mark) place ≡ (if nat_le first place && nat_lt place (address + 1) then mark else old)
set-more first address place mark old marks above inside before = grind (arith, nat_tests, before, get_or-set_at, get_or-set_other)

-- no address yet
pub set-none : (first address place mark old : ℕ) → address ≤ first → old ≡ (if nat_le first place && nat_lt place address then mark else old)
set-none first address place mark old below = grind (arith, nat_tests)

-- all addresses of a range
pub set_all : (range : Range) (address mark : ℕ) (start after : List ℕ) → range.first + range.length ≤ address → address ≤ range.first + range.length →
    length after ≡ length start → ((place : ℕ) → slice_index after place ≡ (if nat_le range.first place && nat_lt place address then mark else slice_index start place)) →
    IsMarked start (in_range range) mark after
set_all range address mark start after past within whole so_far = record {
  whole = whole;
  marks = λ place. let done : address ≡ range.first + range.length = omega arith in so_far place ∙ ap (λ (n : ℕ). if nat_le range.first place && nat_lt place n then mark else slice_index start place) done;
}
