-- The bytes of an instruction are code.
use Rattle.std.proofs.Common.{◌≡◌, ◌<◌, ◌≤◌, ◌+◌, ◌-◌, ℕ, Bool, true, false, true≢false, List, refl, sym, subst, arith}
use Rattle.std.specs.Prelude.{◌&&◌, ◌||◌, nat_le, nat_lt, Option, Some, None, Ok, Err, get_or, slice_index, if◌then◌else◌}
use Rattle.std.specs.List.{list_all, range_with_len}
use Rattle.std.proofs.lemmas.Bool.Decides.{nat_tests}
use Rattle.std.proofs.lemmas.List.FromFn.{get_or-range_with_len, length-range_with_len}
use Rattle.std.proofs.lemmas.List.Sums.{AllPass-from_list_all}
use Rattle.decode80.specs.Decoded.{decoded}
use Rattle.decode80.specs.declared.fetching.FetchFault.TheVariants.{Outside}
use Rattle.decode80.specs.declared.instr.Instr.{Instr}
use Rattle.decode80.specs.Fetch.{admitted_if_used, ahead, all_code, behind, fetch}
use Rattle.image80.specs.Image.{Located, memory_of}
use Rattle.image80.specs.Regions.{in_code}
use Rattle.verify80.specs.LookLaws.{fetch_at}
use Rattle.verify80_cases.specs.Covered.{is_covered, size_at, size_of}

-- each of a given number of bytes from an address on
pub all_of : (code : ℕ → Bool) (at count k : ℕ) → all_code code at count ≡ true → k < count → code (at + k) ≡ true
unfolding all_code
all_of code at count k all less =
    let pass = AllPass-from_list_all code (range_with_len at count) (right (nat_le (at + count) 65536) (list_all code (range_with_len at count)) all) in
    subst (λ a. code a ≡ true) (get_or-range_with_len at count k 0 less) (pass k 0 (omega (arith, less, length-range_with_len at count)))
  where
    right : (a b : Bool) → (a && b) ≡ true → b ≡ true
    right true b e = e
    right false b e = absurd (true≢false (sym e))

pub ends_inside : (code : ℕ → Bool) (at count : ℕ) → all_code code at count ≡ true → at + count ≤ 65536
unfolding all_code
ends_inside code at count all = step (nat_le (at + count) 65536) refl all
  where
    step : (a : Bool) → nat_le (at + count) 65536 ≡ a → (a && list_all code (range_with_len at count)) ≡ true → at + count ≤ 65536
    step true i e = grind (arith, nat_tests)
    step false i e = absurd (true≢false (sym e))

behind_ahead : (at count k : ℕ) → at < 65536 → at + count ≤ 65536 → k < behind (ahead at count) at → k < count
unfolding behind ahead
behind_ahead at count k low inside less = omega (arith, low, inside, less)

-- the bytes of what was fetched
size_admitted : (code : ℕ → Bool) (at k : ℕ) (found : Option (Instr × ℕ)) → at < 65536 → code at ≡ true → k < size_of (admitted_if_used code at found) at → code (at + k) ≡ true
size_admitted code at k None low here less = subst (λ a. code a ≡ true) (omega (arith, less)) here
size_admitted code at k (Some p) low here less = step (all_code code at p.1) refl less
  where
    step : (b : Bool) → all_code code at p.1 ≡ b → k < size_of (if b then Ok (record { instr = p.0; next = ahead at p.1 }) else Err Outside) at → code (at + k) ≡ true
    step true i l = all_of code at p.1 k i (behind_ahead at p.1 k low (ends_inside code at p.1 i) l)
    step false i l = absurd (omega (arith, l))

size_fetched : (code : ℕ → Bool) (held : ℕ → ℕ) (at k : ℕ) → at < 65536 → k < size_of (fetch code held at) at → code (at + k) ≡ true
unfolding fetch
size_fetched code held at k low less = step (code at) refl less
  where
    step : (b : Bool) → code at ≡ b → k < size_of (if b then admitted_if_used code at (decoded (held at) (held (ahead at 1)) (held (ahead at 2))) else Err Outside) at → code (at + k) ≡ true
    step true i l = size_admitted code at k (decoded (held at) (held (ahead at 1)) (held (ahead at 2))) low i l
    step false i l = absurd (omega (arith, l))

size_code : (image : Located) (reached : List Bool) (at k : ℕ) → at < 65536 → nat_lt k (size_at image reached at) ≡ true → in_code image.regions (at + k) ≡ true
unfolding size_at
size_code image reached at k low less = step (get_or reached at false) less
  where
    step : (b : Bool) → nat_lt k (if b then size_of (fetch_at image.regions (memory_of image.chunks) at) at else 0) ≡ true → in_code image.regions (at + k) ≡ true
    step true l = size_fetched (in_code image.regions) (λ place. slice_index (memory_of image.chunks) place) at k low (grind (arith, nat_tests))
    step false l = absurd (grind (arith, nat_tests))

-- what is covered is code
pub covered_code : (image : Located) (reached : List Bool) (address : ℕ) → address < 65536 → is_covered image reached address ≡ true → in_code image.regions address ≡ true
covered_code image reached address low is =
    step (nat_lt 0 (size_at image reached address)) (nat_le 1 address) (nat_lt 1 (size_at image reached (address - 1))) (nat_le 2 address) (nat_lt 2 (size_at image reached (address - 2))) refl refl refl refl refl is
  where
    code : ℕ → Bool
    code = in_code image.regions

    step : (a x b y c : Bool) → nat_lt 0 (size_at image reached address) ≡ a → nat_le 1 address ≡ x → nat_lt 1 (size_at image reached (address - 1)) ≡ b →
        nat_le 2 address ≡ y → nat_lt 2 (size_at image reached (address - 2)) ≡ c → (a || ((x && b) || (y && c))) ≡ true → in_code image.regions address ≡ true
    step true x b y c i1 i2 i3 i4 i5 e = subst (λ n. in_code image.regions n ≡ true) (omega arith) (size_code image reached address 0 low i1)
    step false true true y c i1 i2 i3 i4 i5 e =
        let some : 1 ≤ address = grind (arith, nat_tests) in
        subst (λ n. in_code image.regions n ≡ true) (omega (arith, some)) (size_code image reached (address - 1) 1 (omega (arith, low)) i3)
    step false true false true true i1 i2 i3 i4 i5 e =
        let some : 2 ≤ address = grind (arith, nat_tests) in
        subst (λ n. in_code image.regions n ≡ true) (omega (arith, some)) (size_code image reached (address - 2) 2 (omega (arith, low)) i5)
    step false false b true true i1 i2 i3 i4 i5 e =
        let some : 2 ≤ address = grind (arith, nat_tests) in
        subst (λ n. in_code image.regions n ≡ true) (omega (arith, some)) (size_code image reached (address - 2) 2 (omega (arith, low)) i5)
    step false true false true false i1 i2 i3 i4 i5 e = absurd (true≢false (sym e))
    step false true false false c i1 i2 i3 i4 i5 e = absurd (true≢false (sym e))
    step false false b true false i1 i2 i3 i4 i5 e = absurd (true≢false (sym e))
    step false false b false c i1 i2 i3 i4 i5 e = absurd (true≢false (sym e))
