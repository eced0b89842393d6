-- The ranges of a located program share no address where no two of its segments overlap.
use Rattle.std.proofs.Common.{◌≡◌, ℕ, ◌+◌, ◌%◌, ◌<◌, ◌≤◌, Bool, true, false, cond, ◌&&◌, ◌||◌, List, [], ◌∷◌, ◌++◌, map, refl, sym, ap, ◌∙◌, arith, inl, inr, true≢false}
use Rattle.std.specs.Prelude.{not, nat_le, nat_lt, ◌==◌, None, Some, filter, find, unwrap_or, All}
use Rattle.std.proofs.lemmas.Bool.{and_parts, cases_Bool, lt-ltb, and_from}
use Rattle.std.proofs.lemmas.Bool.Decides.{nat_tests}
use Rattle.std.proofs.lemmas.List.Elements.{All-head, All-tail}
use Rattle.std.proofs.lemmas.List.Folds.{find-append}
use Rattle.std.proofs.lemmas.List.Sums.{sum_by-cons, sum_by-append}
use Rattle.image80.specs.declared.range.Range.{Range}
use Rattle.place80.specs.declared.placed_segments.Placed.{Placed}
use Rattle.image80.specs.Range.{in_range}
use Rattle.image80.specs.Regions.{AreDisjoint, held}
use Rattle.image80.specs.RegionsText.{filled}
use Rattle.place80.specs.Layout.{nowhere}
use Rattle.place80.specs.PlaceFault.{overlaps, pairs}
use Rattle.place80.specs.Locating.{range_at, located_code, located_stack, located_data}
use Rattle.place80.proofs.LocatedDisjoint.{EndsInMemory}
use Rattle.place80.proofs.OptionLemmas.{find_none, none_of_both}

-- 1 where the range holds the address, and else 0
abbrev pub holds : ℕ → Range → ℕ
holds address range = cond (in_range range address) 1 0

pub held_more : (address : ℕ) (range : Range) (ranges : List Range)
    → held address (range ∷ ranges) ≡ holds address range + held address ranges
held_more address range ranges = sum_by-cons (holds address) range ranges

pub held_append : (address : ℕ) (xs ys : List Range) → held address (xs ++ ys) ≡ held address xs + held address ys
held_append address xs ys = sum_by-append (holds address) xs ys

pub empty_holds : (address : ℕ) (range : Range) → nat_lt 0 range.length ≡ false → in_range range address ≡ false
empty_holds address range empty = grind (arith, nat_tests, empty)

-- to leave out empty ranges leaves out no address
pub held_filled : (address : ℕ) (ranges : List Range) → held address (filled ranges) ≡ held address ranges
held_filled address [] = refl
held_filled address (r ∷ rs) = elim (cases_Bool (nat_lt 0 r.length)) [
  | inl e ↦
      ap (λ b. held address (cond b (r ∷ filled rs) (filled rs))) e
      ∙ held_more address r (filled rs)
      ∙ ap (λ n. holds address r + n) (held_filled address rs)
      ∙ sym (held_more address r rs)
  | inr e ↦
      let none : holds address r ≡ 0 = ap (λ b. cond b 1 0) (empty_holds address r e) in
      let more : held address (r ∷ rs) ≡ holds address r + held address rs = held_more address r rs in
      ap (λ b. held address (cond b (r ∷ filled rs) (filled rs))) e ∙ held_filled address rs ∙ omega arith
]

-- how often an address is held by the segments that pass a test
abbrev pub held_where : ℕ → (Placed → Bool) → List Placed → ℕ
held_where address test segments = held address (map range_at (filter test segments))

held_if : (address : ℕ) (b : Bool) (p : Placed) (ps : List Placed) →
    held address (map range_at (cond b (p ∷ ps) ps)) ≡ cond b (holds address (range_at p)) 0 + held address (map range_at ps)
held_if address true p ps = held_more address (range_at p) (map range_at ps)
held_if address false p ps = omega arith

one_of_three : (id n : ℕ) → cond (id == 1) n 0 + cond (id == 3) n 0 + cond (not (id == 1 || id == 3)) n 0 ≡ n
one_of_three id n = elim (cases_Bool (id == 1)) [
  | inl e ↦
      let other : (id == 3) ≡ false = grind (arith, nat_tests, e) in
      rw (e, other) (omega arith)
  | inr e ↦ elim (cases_Bool (id == 3)) [ inl f ↦ rw (e, f) (omega arith) | inr f ↦ rw (e, f) (omega arith) ]
]

-- code, stacks and data are all segments
pub held_in_three : (address : ℕ) (segments : List Placed) →
    held_where address (λ p. p.id == 1) segments + held_where address (λ p. p.id == 3) segments + held_where address
    (λ p. not (p.id == 1 || p.id == 3)) segments
    ≡ held address (map range_at segments)
held_in_three address [] = refl
held_in_three address (p ∷ ps) =
    let code = held_if address (p.id == 1) p (filter (λ q. q.id == 1) ps) in
    let stack = held_if address (p.id == 3) p (filter (λ q. q.id == 3) ps) in
    let other = held_if address (not (p.id == 1 || p.id == 3)) p (filter (λ q. not (q.id == 1 || q.id == 3)) ps) in
    let rest = held_in_three address ps in
    let one = one_of_three p.id (holds address (range_at p)) in
    let whole = held_more address (range_at p) (map range_at ps) in
    omega (arith, code, stack, other, rest, one, whole)

-- the one stack holds no more than all of them
pub held_stack : (address : ℕ) (segments : List Placed)
    → holds address (located_stack segments) ≤ held_where address (λ p. p.id == 3) segments
held_stack address [] =
    let none : holds address (range_at (nowhere 3)) ≡ 0 =
    ap (λ b. cond b 1 0) (empty_holds address (range_at (nowhere 3)) refl) in
    omega arith
held_stack address (p ∷ ps) = elim (cases_Bool (p.id == 3)) [
  | inl e ↦
      let here : located_stack (p ∷ ps) ≡ range_at p =
      ap (λ b. range_at (unwrap_or (cond b (Some p) (find (λ q. q.id == 3) ps)) (nowhere 3))) e in
      let one : holds address (located_stack (p ∷ ps)) ≡ holds address (range_at p) = ap (holds address) here in
      let more : held_where address (λ q. q.id == 3) (p ∷ ps)
      ≡ holds address (range_at p) + held_where address (λ q. q.id == 3) ps =
      ap (λ b. held address (map range_at (cond b (p ∷ filter (λ q. q.id == 3) ps) (filter (λ q. q.id == 3) ps)))) e
      ∙ held_more address (range_at p) (map range_at (filter (λ q. q.id == 3) ps)) in
      omega (arith, one, more)
  | inr e ↦
      let there : located_stack (p ∷ ps) ≡ located_stack ps =
      ap (λ b. range_at (unwrap_or (cond b (Some p) (find (λ q. q.id == 3) ps)) (nowhere 3))) e in
      let one : holds address (located_stack (p ∷ ps)) ≡ holds address (located_stack ps) = ap (holds address) there in
      let same : held_where address (λ q. q.id == 3) (p ∷ ps) ≡ held_where address (λ q. q.id == 3) ps =
      ap (λ b. held address (map range_at (cond b (p ∷ filter (λ q. q.id == 3) ps) (filter (λ q. q.id == 3) ps)))) e in
      let rest : holds address (located_stack ps) ≤ held_where address (λ q. q.id == 3) ps = held_stack address ps in
      omega (arith, one, same, rest)
]

-- an address in a segment's range is one of the segment's
above_base : (base length address : ℕ) → base + length ≤ 65536 → nat_le (base % 65536) address ≡ true
    → nat_lt address (base % 65536 + length) ≡ true →
    (base ≤ address) × (address < base + length)
above_base base length address ends above below =
    (grind (arith, nat_tests, ends, above, below), grind (arith, nat_tests, ends, above, below))

pub in_segment : (p : Placed) (address : ℕ) → EndsInMemory p → in_range (range_at p) address ≡ true
    → (p.base ≤ address) × (address < p.base + p.length)
in_segment p address ends inside =
    let parts = and_parts (nat_le (p.base % 65536) address) (nat_lt address (p.base % 65536 + p.length)) inside in
    above_base p.base p.length address ends parts.0 parts.1

-- two segments with an address in both overlap
pub share_then_overlap : (p q : Placed) (address : ℕ) → p.base ≤ address → address < p.base + p.length → q.base ≤ address
    → address < q.base + q.length →
    overlaps p q ≡ true
share_then_overlap p q address above below other_above other_below =
    and_from (nat_lt 0 p.length && nat_lt 0 q.length && nat_lt p.base (q.base + q.length)) (nat_lt q.base (p.base + p.length))
    (and_from (nat_lt 0 p.length && nat_lt 0 q.length) (nat_lt p.base (q.base + q.length))
    (and_from (nat_lt 0 p.length) (nat_lt 0 q.length) (lt-ltb 0 p.length (omega arith)) (lt-ltb 0 q.length (omega arith)))
    (lt-ltb p.base (q.base + q.length) (omega arith)))
    (lt-ltb q.base (p.base + p.length) (omega arith))

pub not_in : (p q : Placed) (address : ℕ) → EndsInMemory p → EndsInMemory q → overlaps p q ≡ false
    → in_range (range_at p) address ≡ true → in_range (range_at q) address ≡ false
not_in p q address ends other_ends apart inside = elim (cases_Bool (in_range (range_at q) address)) [
  | inl e ↦
      let here = in_segment p address ends inside in
      let there = in_segment q address other_ends e in
      absurd (true≢false (sym (share_then_overlap p q address here.0 here.1 there.0 there.1) ∙ apart))
  | inr e ↦ e
]

-- none of the later segments holds an address of one that overlaps none of them
none_holds : (p : Placed) (ps : List Placed) (address : ℕ) → EndsInMemory p → All EndsInMemory ps
    → find (λ (pq : Placed × Placed). overlaps pq.0 pq.1) (map (λ q. (p, q)) ps) ≡ None →
    in_range (range_at p) address ≡ true → held address (map range_at ps) ≡ 0
none_holds p [] address ends all none inside = refl
none_holds p (q ∷ qs) address ends all none inside =
    let parts = find_none (λ (pq : Placed × Placed). overlaps pq.0 pq.1) (p, q) (map (λ q. (p, q)) qs) none in
    let out : holds address (range_at q) ≡ 0 =
    ap (λ b. cond b 1 0) (not_in p q address ends (All-head EndsInMemory q qs all) parts.0 inside) in
    let rest : held address (map range_at qs) ≡ 0 =
    none_holds p qs address ends (All-tail EndsInMemory q qs all) parts.1 inside in
    held_more address (range_at q) (map range_at qs) ∙ omega arith

pub held_once : (address : ℕ) (segments : List Placed) → All EndsInMemory segments
    → find (λ pq. overlaps pq.0 pq.1) (pairs segments) ≡ None →
    held address (map range_at segments) ≤ 1
held_once address [] ends none = omega arith
held_once address (p ∷ ps) ends none =
    let parts = none_of_both (find (λ (pq : Placed × Placed). overlaps pq.0 pq.1) (map (λ q. (p, q)) ps))
    (find (λ (pq : Placed × Placed). overlaps pq.0 pq.1) (pairs ps))
    (sym (find-append (λ (pq : Placed × Placed). overlaps pq.0 pq.1) (map (λ q. (p, q)) ps) (pairs ps)) ∙ none) in
    let rest : held address (map range_at ps) ≤ 1 = held_once address ps (All-tail EndsInMemory p ps ends) parts.1 in
    let whole : held address (map range_at (p ∷ ps)) ≡ holds address (range_at p) + held address (map range_at ps) =
    held_more address (range_at p) (map range_at ps) in
    elim (cases_Bool (in_range (range_at p) address)) [
      | inl e ↦
          let one : holds address (range_at p) ≡ 1 = ap (λ b. cond b 1 0) e in
          let others : held address (map range_at ps) ≡ 0 =
          none_holds p ps address (All-head EndsInMemory p ps ends) (All-tail EndsInMemory p ps ends) parts.0 e in
          omega (arith, whole, one, others)
      | inr e ↦
          let none_here : holds address (range_at p) ≡ 0 = ap (λ b. cond b 1 0) e in
          omega (arith, whole, none_here, rest)
    ]

-- no address lies in two of the ranges
pub disjoint_located : (segments : List Placed) → All EndsInMemory segments
    → find (λ pq. overlaps pq.0 pq.1) (pairs segments) ≡ None →
    AreDisjoint (located_code segments ++ located_stack segments ∷ located_data segments)
disjoint_located segments ends none address =
    let code = held_filled address (map range_at (filter (λ p. p.id == 1) segments)) in
    let other = held_filled address (map range_at (filter (λ p. not (p.id == 1 || p.id == 3)) segments)) in
    let front = held_append address (located_code segments) (located_stack segments ∷ located_data segments) in
    let back = held_more address (located_stack segments) (located_data segments) in
    let stack = held_stack address segments in
    let three = held_in_three address segments in
    let once = held_once address segments ends none in
    omega (arith, code, other, front, back, stack, three, once)
