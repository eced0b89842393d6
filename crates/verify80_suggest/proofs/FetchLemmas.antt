-- What is fetched where there is more code.
use Rattle.std.proofs.Common.{◌≡◌, ◌<◌, ◌≤◌, ◌+◌, ◌-◌, ℕ, zero, suc, Bool, true, false, true≢false, List, length, refl, sym, subst, ap, ◌∙◌, arith}
use Rattle.std.specs.Prelude.{◌&&◌, ◌||◌, nat_le, nat_lt, Option, Some, None, Result, Ok, Err, slice_index, if◌then◌else◌}
use Rattle.std.specs.List.{list_all, range_with_len}
use Rattle.std.specs.Option.{option_map}
use Rattle.std.proofs.lemmas.Bool.Decides.{nat_tests}
use Rattle.std.proofs.lemmas.List.FromFn.{get_or-range_with_len, length-range_with_len}
use Rattle.std.proofs.lemmas.List.Sums.{list_all-from_AllPass}
use Rattle.decode80.specs.Decoded.{completed, decoded, row}
use Rattle.decode80.specs.declared.fetching.Fetched.{Fetched}
use Rattle.decode80.specs.declared.fetching.FetchFault.{FetchFault}
use Rattle.decode80.specs.declared.fetching.FetchFault.TheVariants.{Outside, Unused}
use Rattle.decode80.specs.declared.instr.Instr.{Instr}
use Rattle.decode80.specs.Fetch.{admitted_if_used, ahead, all_code, behind, fetch}
use Rattle.decode80.specs.Spelling.{spelling}
use Rattle.image80.specs.declared.range.Range.{Range}
use Rattle.image80.specs.Image.{Located, memory_of}
use Rattle.image80.specs.Regions.{Areas, in_code}
use Rattle.verify80.specs.LookLaws.{fetch_at}
use Rattle.verify80_cases.specs.Covered.{is_covered, size_at, size_of}
use Rattle.verify80_cases.specs.Marks.{marked}
use Rattle.verify80_suggest.specs.Bytes.{may_be_code}
use Rattle.verify80_suggest.specs.Lacking.{LacksByte}
use Rattle.verify80_suggest.specs.Suggestion.{with_regions}
use Rattle.verify80_suggest.proofs.CodeLemmas.{all_of, ends_inside}

all_from : (code : ℕ → Bool) (at count : ℕ) → at + count ≤ 65536 → ((k : ℕ) → k < count → code (at + k) ≡ true) → all_code code at count ≡ true
unfolding all_code
all_from code at count inside each =
    let low : nat_le (at + count) 65536 ≡ true = grind (arith, nat_tests) in
    ap (λ b. b && list_all code (range_with_len at count)) low
    ∙ list_all-from_AllPass code (range_with_len at count)
    (λ k d l. let less : k < count = omega (arith, l, length-range_with_len at count) in
    subst (λ a. code a ≡ true) (sym (get_or-range_with_len at count k d less)) (each k less))

module _ (code wider : ℕ → Bool) (held : ℕ → ℕ) (at : ℕ) (found : Fetched) (inside : (a : ℕ) → code a ≡ true → wider a ≡ true) where
  all_more : (count : ℕ) → all_code code at count ≡ true → all_code wider at count ≡ true
  all_more count all = all_from wider at count (ends_inside code at count all) (λ k less. inside (at + k) (all_of code at count k all less))

  admitted_more : (d : Option (Instr × ℕ)) → admitted_if_used code at d ≡ Ok found → admitted_if_used wider at d ≡ Ok found
  admitted_more None e = absurd (let wrong : Err Unused ≡ Ok found = e in cc)
  admitted_more (Some p) e = step (all_code code at p.1) refl e
    where
      step : (b : Bool) → all_code code at p.1 ≡ b → (if b then Ok (record { instr = p.0; next = ahead at p.1 }) else Err Outside) ≡ Ok found → admitted_if_used wider at (Some p) ≡ Ok found
      step true i e = ap (λ b. if b then Ok (record { instr = p.0; next = ahead at p.1 }) else Err Outside) (all_more p.1 i) ∙ e
      step false i e = absurd (let wrong : Err Outside ≡ Ok found = e in cc)

  -- an instruction that is fetched is fetched where there is more code
  pub fetch_more : fetch code held at ≡ Ok found → fetch wider held at ≡ Ok found
  unfolding fetch
  fetch_more e = step (code at) refl e
    where
      d : Option (Instr × ℕ)
      d = decoded (held at) (held (ahead at 1)) (held (ahead at 2))

      step : (b : Bool) → code at ≡ b → (if b then admitted_if_used code at d else Err Outside) ≡ Ok found → (if wider at then admitted_if_used wider at d else Err Outside) ≡ Ok found
      step true i e = ap (λ b. if b then admitted_if_used wider at d else Err Outside) (inside at i) ∙ admitted_more d e
      step false i e = absurd (let wrong : Err Outside ≡ Ok found = e in cc)

-- what is fetched at an address of code
module _ (code : ℕ → Bool) (held : ℕ → ℕ) (at : ℕ) (is_code : code at ≡ true) where
  abbrev here : Option (Instr × ℕ)
  here = decoded (held at) (held (ahead at 1)) (held (ahead at 2))

  fetch_unused : here ≡ None → fetch code held at ≡ Err Unused
  unfolding fetch
  fetch_unused e = ap (λ b. if b then admitted_if_used code at here else Err Outside) is_code ∙ ap (admitted_if_used code at) e

  fetch_found : (p : Instr × ℕ) → here ≡ Some p → all_code code at p.1 ≡ true → fetch code held at ≡ Ok (record { instr = p.0; next = ahead at p.1 })
  unfolding fetch
  fetch_found p e all =
      ap (λ b. if b then admitted_if_used code at here else Err Outside) is_code
      ∙ ap (admitted_if_used code at) e
      ∙ ap (λ b. if b then Ok (record { instr = p.0; next = ahead at p.1 }) else Err Outside) all

-- an instruction has one to three bytes
module _ (sizes : (i : Instr) → (1 ≤ length (spelling i)) × (length (spelling i) ≤ 3)) where
  short : (a b c : ℕ) (p : Instr × ℕ) → decoded a b c ≡ Some p → (1 ≤ p.1) × (p.1 ≤ 3)
  unfolding decoded
  short a b c p e = step (row a) e
    where
      step : (r : Option Instr) → option_map (completed b c) r ≡ Some p → (1 ≤ p.1) × (p.1 ≤ 3)
      step None e = absurd (let wrong : None ≡ Some p = e in cc)
      step (Some i) e =
          let same : completed b c i ≡ p = cc in
          subst (λ (q : Instr × ℕ). (1 ≤ q.1) × (q.1 ≤ 3)) same (sizes i)

pub is_below : (a : ℕ) → a < 65536 → nat_lt a 65536 ≡ true
is_below a low = grind (arith, nat_tests)

counted_back : (at count : ℕ) → at < 65536 → count ≤ 3 → behind (ahead at count) at ≡ count
unfolding behind ahead
counted_back at count low few = omega (arith, low, few)

or_left : (a b : Bool) → a ≡ true → (a || b) ≡ true
or_left true b e = refl
or_left false b e = absurd (true≢false (sym e))

or_right : (a b : Bool) → b ≡ true → (a || b) ≡ true
or_right true b e = refl
or_right false b e = e

pub both_true : (a b : Bool) → a ≡ true → b ≡ true → (a && b) ≡ true
both_true true b e f = f
both_true false b e f = absurd (true≢false (sym e))

-- the bytes of an instruction at a marked address are covered
module _ (image : Located) (reached : List Bool) (at : ℕ) (is_marked : marked reached at ≡ true) where
  size_here : size_at image reached at ≡ size_of (fetch_at image.regions (memory_of image.chunks) at) at
  unfolding size_at
  size_here = ap (λ b. if b then size_of (fetch_at image.regions (memory_of image.chunks) at) at else 0) is_marked

  abbrev size : ℕ
  size = size_of (fetch_at image.regions (memory_of image.chunks) at) at

  longer : (k : ℕ) → k < size → nat_lt k (size_at image reached at) ≡ true
  longer k less = let e = size_here in let l : k < size_at image reached at = omega (arith, less, e) in grind (arith, nat_tests)

  covered_first : 0 < size → is_covered image reached at ≡ true
  covered_first less = or_left (nat_lt 0 (size_at image reached at)) _ (longer 0 less)

  covered_second : 1 < size → is_covered image reached (at + 1) ≡ true
  covered_second less = or_right (nat_lt 0 (size_at image reached (at + 1))) _
      (or_left (nat_le 1 (at + 1) && nat_lt 1 (size_at image reached (at + 1 - 1))) _
      (both_true (nat_le 1 (at + 1)) _ (grind (arith, nat_tests))
      (subst (λ a. nat_lt 1 (size_at image reached a) ≡ true) back (longer 1 less))))
    where
      back : at ≡ at + 1 - 1
      back = omega arith

  covered_third : 2 < size → is_covered image reached (at + 2) ≡ true
  covered_third less = or_right (nat_lt 0 (size_at image reached (at + 2))) _
      (or_right (nat_le 1 (at + 2) && nat_lt 1 (size_at image reached (at + 2 - 1))) _
      (both_true (nat_le 2 (at + 2)) _ (grind (arith, nat_tests))
      (subst (λ a. nat_lt 2 (size_at image reached a) ≡ true) back (longer 2 less))))
    where
      back : at ≡ at + 2 - 2
      back = omega arith

  pub covered_all : (k : ℕ) → k < size → k < 3 → is_covered image reached (at + k) ≡ true
  covered_all zero less few = subst (λ a. is_covered image reached a ≡ true) (omega arith) (covered_first less)
  covered_all (suc zero) less few = covered_second less
  covered_all (suc (suc zero)) less few = covered_third less
  covered_all (suc (suc (suc k))) less few = absurd (omega (arith, few))

-- regions whose code has what is covered, where all bytes are code that may be
module _ (image : Located) (known areas : Areas) (rom : List Range) (reached : List Bool)
    (known_exact : (a : ℕ) → in_code known a ≡ (nat_lt a 65536 && may_be_code image.chunks rom a))
    (in_areas : (a : ℕ) → a < 65536 → is_covered (with_regions image known) reached a ≡ true → in_code areas a ≡ true)
    (sizes : (i : Instr) → (1 ≤ length (spelling i)) × (length (spelling i) ≤ 3)) where
  abbrev wide : Located
  wide = with_regions image known

  abbrev held : ℕ → ℕ
  held place = slice_index (memory_of image.chunks) place

  abbrev may : ℕ → Bool
  may = may_be_code image.chunks rom

  in_known : (a : ℕ) → a < 65536 → may a ≡ true → in_code known a ≡ true
  in_known a low is = known_exact a ∙ both_true (nat_lt a 65536) (may a) (is_below a low) is

  module _ (at : ℕ) (low : at < 65536) (is_marked : marked reached at ≡ true) (outside : fetch (in_code areas) held at ≡ Err Outside) (is_may : may at ≡ true) where
    abbrev bytes : Option (Instr × ℕ)
    bytes = decoded (held at) (held (ahead at 1)) (held (ahead at 2))

    -- the size of what is fetched with all bytes as code
    sized : (r : Result Fetched FetchFault) → fetch (in_code known) held at ≡ r → (k : ℕ) → k < size_of r at → k < 3 → at + k < 65536 → in_code areas (at + k) ≡ true
    sized r e k less few inside = in_areas (at + k) inside (covered_all wide reached at is_marked k (subst (λ x. k < size_of x at) (sym e) less) few)

    not_unused : bytes ≡ None → ⊥
    not_unused e =
        let code : in_code areas at ≡ true = subst (λ a. in_code areas a ≡ true) (omega arith)
        (sized (Err Unused) (fetch_unused (in_code known) held at (in_known at low is_may) e) 0 (omega arith) (omega arith) (omega (arith, low))) in
        let wrong : Err Unused ≡ Err Outside = sym (fetch_unused (in_code areas) held at code e) ∙ outside in
        let wrong' : Unused ≡ Outside = cc in cc

    not_found : (p : Instr × ℕ) → bytes ≡ Some p → all_code may at p.1 ≡ true → ⊥
    not_found p e all =
        let few = short sizes (held at) (held (ahead at 1)) (held (ahead at 2)) p e in
        let ends = ends_inside may at p.1 all in
        let known_all = all_from (in_code known) at p.1 ends (λ k less. in_known (at + k) (omega (arith, less, ends)) (all_of may at p.1 k all less)) in
        let found = fetch_found (in_code known) held at (in_known at low is_may) p e known_all in
        let each : (k : ℕ) → k < p.1 → in_code areas (at + k) ≡ true = λ k less.
        sized (Ok (record { instr = p.0; next = ahead at p.1 })) found k (omega (arith, less, counted_back at p.1 low few.1)) (omega (arith, less, few.1)) (omega (arith, less, ends)) in
        let first : in_code areas at ≡ true = subst (λ a. in_code areas a ≡ true) (omega arith) (each 0 (omega (arith, few.0))) in
        let wrong = sym (fetch_found (in_code areas) held at first p e (all_from (in_code areas) at p.1 ends each)) ∙ outside in
        cc

    lacks_here : (d : Option (Instr × ℕ)) → bytes ≡ d → admitted_if_used may at d ≡ Err Outside
    lacks_here None e = absurd (not_unused e)
    lacks_here (Some p) e = step (all_code may at p.1) refl
      where
        step : (b : Bool) → all_code may at p.1 ≡ b → admitted_if_used may at (Some p) ≡ Err Outside
        step true i = absurd (not_found p e i)
        step false i = ap (λ b. if b then Ok (record { instr = p.0; next = ahead at p.1 }) else Err Outside) i

  -- where nothing can be fetched at an address that is reached, a byte is lacking
  pub lacks : (at : ℕ) → at < 65536 → marked reached at ≡ true → fetch_at areas (memory_of image.chunks) at ≡ Err Outside → LacksByte image rom at
  unfolding fetch
  lacks at low is_marked outside = step (may at) refl
    where
      bytes' : Option (Instr × ℕ)
      bytes' = decoded (held at) (held (ahead at 1)) (held (ahead at 2))

      step : (b : Bool) → may at ≡ b → fetch may held at ≡ Err Outside
      step true i = ap (λ b. if b then admitted_if_used may at bytes' else Err Outside) i ∙ lacks_here at low is_marked outside i bytes' refl
      step false i = ap (λ b. if b then admitted_if_used may at bytes' else Err Outside) i
