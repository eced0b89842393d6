-- The lines of an image's code, one address after another.
use Rattle.std.specs.Prelude.{◌≡◌, ℕ, zero, suc, ◌+◌, ◌-◌, ◌<◌, ◌≤◌, Bool, true, false, List, [], ◌∷◌, ◌++◌, Option, None, Some, length, drop, codes, slice_index, slice_index_or, if◌then◌else◌, refl}
use Rattle.std.specs.List.{flat_map, range_with_len}
use Rattle.std.proofs.Common.{◌∙◌, ap, sym, subst, arith, add-one, append_assoc, append-nil, length-append}
use Rattle.std.proofs.lemmas.Bool.{true≢false}
use Rattle.decode80.specs.declared.fetching.Fetched.{Fetched}
use Rattle.image80.specs.Regions.{Areas}
use Rattle.verify80.specs.Reached.{found_at}
use Rattle.loader80_trace.specs.Lines.{filled}
use Rattle.loader80_trace.specs.Cover.{cover_lines, data_before, data_from, is_data, line_at, line_of, mark_if, marked_line_at, marked_lines, tally}

-- the lines from an address on
unfoldable pub rest_lines : (shown : Bool) → (counts : List ℕ) → Areas → List ℕ → List (Option Fetched) → (at left : ℕ) → List ℕ
rest_lines shown counts regions memory table at left = flat_map (line_at shown counts regions memory table) (range_with_len at left)

pub all_rest : (shown : Bool) (counts : List ℕ) (regions : Areas) (memory : List ℕ) (table : List (Option Fetched)) (before : List ℕ) → before ++ rest_lines shown counts regions memory table 0 65536 ≡ before ++ cover_lines shown counts regions memory table
unfolding cover_lines rest_lines
all_rest shown counts regions memory table before = refl

-- the line of an address doesn't ask for counts that aren't shown
counted_line : (shown : Bool) (count other : ℕ) (data_here : ℕ → Bool) (memory : List ℕ) (at : ℕ) (found : Option Fetched) → (shown ≡ true → count ≡ other) →
    line_of shown count data_here memory at found ≡ line_of shown other data_here memory at found
counted_line true count other data_here memory at found same = ap (λ (n : ℕ). line_of true n data_here memory at found) (same refl)
counted_line false count other data_here memory at (Some found) same = refl
counted_line false count other data_here memory at None same = refl

pub rest_next : (shown : Bool) (counts : List ℕ) (regions : Areas) (memory : List ℕ) (table : List (Option Fetched)) (at left : ℕ) (old new whole : List ℕ) (count : ℕ) → 0 < left → (shown ≡ true → count ≡ slice_index counts at) →
    old ++ rest_lines shown counts regions memory table at left ≡ whole → new ≡ old ++ line_of shown count (is_data regions table) memory at (found_at table at) →
    new ++ rest_lines shown counts regions memory table (at + 1) (left - 1) ≡ whole
unfolding rest_lines
rest_next shown counts regions memory table at zero old new whole count some same so_far made = absurd (omega arith)
rest_next shown counts regions memory table at (suc left) old new whole count some same so_far made =
    let less : suc left - 1 ≡ left = omega arith in
    let rest : List ℕ = rest_lines shown counts regions memory table (at + 1) left in
    ap (λ (n : ℕ). new ++ rest_lines shown counts regions memory table (at + 1) n) less
    ∙ ap (λ (l : List ℕ). l ++ rest) (made ∙ ap (λ (l : List ℕ). old ++ l) (counted_line shown count (slice_index counts at) (is_data regions table) memory at (found_at table at) same))
    ∙ append_assoc old (line_at shown counts regions memory table at) rest ∙ so_far

pub rest_none : (shown : Bool) (counts : List ℕ) (regions : Areas) (memory : List ℕ) (table : List (Option Fetched)) (at left : ℕ) (lines whole : List ℕ) → left ≡ 0 → lines ++ rest_lines shown counts regions memory table at left ≡ whole → lines ≡ whole
unfolding rest_lines
rest_none shown counts regions memory table at zero lines whole none so_far = sym (append-nil lines) ∙ so_far
rest_none shown counts regions memory table at (suc left) lines whole none so_far = absurd (omega arith)

-- the same of lines with marks
unfoldable pub rest_marked : (marks : List Bool) → Areas → List ℕ → List (Option Fetched) → (at left : ℕ) → List ℕ
rest_marked marks regions memory table at left = flat_map (marked_line_at marks regions memory table) (range_with_len at left)

pub all_marked : (marks : List Bool) (regions : Areas) (memory : List ℕ) (table : List (Option Fetched)) (before : List ℕ) → before ++ rest_marked marks regions memory table 0 65536 ≡ before ++ marked_lines marks regions memory table
unfolding marked_lines rest_marked
all_marked marks regions memory table before = refl

pub next_marked : (marks : List Bool) (regions : Areas) (memory : List ℕ) (table : List (Option Fetched)) (at : ℕ) (old mid new whole : List ℕ) → at < 65536 →
    old ++ rest_marked marks regions memory table at (65536 - at) ≡ whole → mid ≡ old ++ mark_if (slice_index_or marks at false) at
    → new ≡ mid ++ line_of false 0 (is_data regions table) memory at (found_at table at) →
    new ++ rest_marked marks regions memory table (at + 1) (65536 - (at + 1)) ≡ whole
unfolding rest_marked
next_marked marks regions memory table at old mid new whole inside so_far first second =
    by_left (65536 - at) (omega (arith, inside)) so_far (omega arith)
  where
    made : new ≡ old ++ marked_line_at marks regions memory table at
    made = second ∙ ap (λ (l : List ℕ). l ++ line_of false 0 (is_data regions table) memory at (found_at table at)) first
        ∙ append_assoc old (mark_if (slice_index_or marks at false) at) (line_of false 0 (is_data regions table) memory at (found_at table at))
        ∙ ap (λ (l : List ℕ). old ++ (mark_if (slice_index_or marks at false) at ++ l)) (counted_line false 0 (slice_index [] at) (is_data regions table) memory at (found_at table at) (λ never. elim (true≢false (sym never)) [ ]))

    by_left : (left : ℕ) → 0 < left → old ++ rest_marked marks regions memory table at left ≡ whole → left - 1 ≡ 65536 - (at + 1) →
        new ++ rest_marked marks regions memory table (at + 1) (65536 - (at + 1)) ≡ whole
    by_left zero some so_far less = absurd (omega (arith, some))
    by_left (suc left) some so_far less =
        let others : List ℕ = flat_map (marked_line_at marks regions memory table) (range_with_len (at + 1) left) in
        let same : 65536 - (at + 1) ≡ left = omega (arith, less) in
        ap (λ (n : ℕ). new ++ flat_map (marked_line_at marks regions memory table) (range_with_len (at + 1) n)) same
        ∙ ap (λ (l : List ℕ). l ++ others) made
        ∙ append_assoc old (marked_line_at marks regions memory table at) others ∙ so_far

pub none_marked : (marks : List Bool) (regions : Areas) (memory : List ℕ) (table : List (Option Fetched)) (at left : ℕ) (lines whole : List ℕ) → left ≡ 0 → lines ++ rest_marked marks regions memory table at left ≡ whole → lines ≡ whole
unfolding rest_marked
none_marked marks regions memory table at zero lines whole none so_far = sym (append-nil lines) ∙ so_far
none_marked marks regions memory table at (suc left) lines whole none so_far = absurd (omega arith)

-- the bytes of data before the next address
pub data_before-more : (data_here : ℕ → Bool) (at : ℕ) → data_before data_here (at + 1) ≡ (if data_here at then data_before data_here at + 1 else 0)
data_before-more data_here at = rw add-one refl

pub before_yes : (data_here : ℕ → Bool) (at before : ℕ) → before ≡ data_before data_here at → data_here at ≡ true → before + 1 ≡ data_before data_here (at + 1)
before_yes data_here at before same holds = ap (λ (n : ℕ). n + 1) same ∙ sym (data_before-more data_here at ∙ ap (λ (b : Bool). if b then data_before data_here at + 1 else 0) holds)

pub before_no : (data_here : ℕ → Bool) (at : ℕ) → data_here at ≡ false → 0 ≡ data_before data_here (at + 1)
before_no data_here at fails = sym (data_before-more data_here at ∙ ap (λ (b : Bool). if b then data_before data_here at + 1 else 0) fails)

-- the bytes of data from an address on
pub data_more : (data_here : ℕ → Bool) (memory : List ℕ) (most at : ℕ) → 0 < most → data_here at ≡ true → data_from data_here memory most at ≡ slice_index memory at ∷ data_from data_here memory (most - 1) (at + 1)
data_more data_here memory zero at some holds = absurd (omega arith)
data_more data_here memory (suc most) at some holds =
    let less : suc most - 1 ≡ most = omega arith in
    ap (λ (b : Bool). if b then slice_index memory at ∷ data_from data_here memory most (at + 1) else []) holds
    ∙ ap (λ (n : ℕ). slice_index memory at ∷ data_from data_here memory n (at + 1)) (sym less)

pub data_ends : (data_here : ℕ → Bool) (memory : List ℕ) (most at : ℕ) → data_here at ≡ false → data_from data_here memory most at ≡ []
data_ends data_here memory zero at fails = refl
data_ends data_here memory (suc most) at fails = ap (λ (b : Bool). if b then slice_index memory at ∷ data_from data_here memory most (at + 1) else []) fails

-- what passes a test
pub tally-more : (test : ℕ → Bool) (at left : ℕ) → 0 < left → tally test at left ≡ (if test at then 1 else 0) + tally test (at + 1) (left - 1)
unfolding tally
tally-more test at zero some = absurd (omega arith)
tally-more test at (suc left) some =
    let less : left ≡ suc left - 1 = omega arith in
    ap (λ (n : ℕ). (if test at then 1 else 0) + tally test (at + 1) n) less

pub tally-none : (test : ℕ → Bool) (at left : ℕ) → left ≡ 0 → tally test at left ≡ 0
unfolding tally
tally-none test at zero none = refl
tally-none test at (suc left) none = absurd (omega arith)

-- spaces behind a text
pub filled_up : (old text n₁ n₂ : List ℕ) (before : ℕ) → before ≡ length old → n₁ ≡ old ++ text → n₂ ≡ n₁ ++ drop (length n₁ - before) (codes "          ") → n₂ ≡ old ++ filled text
filled_up old text n₁ n₂ before e e₁ e₂ =
    let long : length n₁ ≡ length old + length text = ap length e₁ ∙ length-append old text in
    let shown : length n₁ - before ≡ length text = omega arith in
    e₂ ∙ ap (λ (k : ℕ). n₁ ++ drop k (codes "          ")) shown ∙ ap (λ (l : List ℕ). l ++ drop (length text) (codes "          ")) e₁
    ∙ append_assoc old text (drop (length text) (codes "          "))

-- the next address is tallied
pub tally_next : (test : ℕ → Bool) (at count one whole : ℕ) → at < 65536 → one ≡ (if test at then 1 else 0) → count + tally test at (65536 - at) ≡ whole → count + one + tally test (at + 1) (65536 - (at + 1)) ≡ whole
tally_next test at count one whole inside same so_far =
    let some : 0 < 65536 - at = omega arith in
    let less : 65536 - at - 1 ≡ 65536 - (at + 1) = omega arith in
    let here : tally test at (65536 - at) ≡ one + tally test (at + 1) (65536 - (at + 1)) =
    tally-more test at (65536 - at) some ∙ ap (λ (n : ℕ). n + tally test (at + 1) (65536 - at - 1)) (sym same) ∙ ap (λ (n : ℕ). one + tally test (at + 1) n) less in
    omega (arith, here, so_far)

pub tally_all : (test : ℕ → Bool) (at count whole : ℕ) → 65536 ≤ at → count + tally test at (65536 - at) ≡ whole → count ≡ whole
tally_all test at count whole past so_far =
    let none : tally test at (65536 - at) ≡ 0 = tally-none test at (65536 - at) (omega arith) in
    omega (arith, none, so_far)

-- the next byte of data
pub data_next : (data_here : ℕ → Bool) (memory : List ℕ) (first offset : ℕ) (old new byte_shown whole : List ℕ) (text : ℕ → List ℕ) → offset < 8 → data_here (first + offset) ≡ true → byte_shown ≡ text (slice_index memory (first + offset)) → new ≡ old ++ byte_shown →
    old ++ flat_map text (data_from data_here memory (8 - offset) (first + offset)) ≡ whole → new ++ flat_map text (data_from data_here memory (8 - (offset + 1)) (first + (offset + 1))) ≡ whole
data_next data_here memory first offset old new byte_shown whole text inside holds shown made so_far =
    let next : first + offset + 1 ≡ first + (offset + 1) = omega arith in
    let less : 8 - offset - 1 ≡ 8 - (offset + 1) = omega arith in
    let rest : List ℕ = flat_map text (data_from data_here memory (8 - (offset + 1)) (first + (offset + 1))) in
    let here : data_from data_here memory (8 - offset) (first + offset) ≡ slice_index memory (first + offset) ∷ data_from data_here memory (8 - (offset + 1)) (first + (offset + 1)) =
    data_more data_here memory (8 - offset) (first + offset) (omega arith) holds
    ∙ ap (λ (n : ℕ). slice_index memory (first + offset) ∷ data_from data_here memory n (first + offset + 1)) less
    ∙ ap (λ (n : ℕ). slice_index memory (first + offset) ∷ data_from data_here memory (8 - (offset + 1)) n) next in
    ap (λ (l : List ℕ). l ++ rest) (made ∙ ap (λ (l : List ℕ). old ++ l) shown) ∙ append_assoc old (text (slice_index memory (first + offset))) rest
    ∙ ap (λ (l : List ℕ). old ++ flat_map text l) (sym here) ∙ so_far

pub next_lines : (shown : Bool) (counts : List ℕ) (regions : Areas) (memory : List ℕ) (table : List (Option Fetched)) (at : ℕ) (old new whole : List ℕ) (count : ℕ) → at < 65536 → (shown ≡ true → count ≡ slice_index counts at) →
    old ++ rest_lines shown counts regions memory table at (65536 - at) ≡ whole → new ≡ old ++ line_of shown count (is_data regions table) memory at (found_at table at) →
    new ++ rest_lines shown counts regions memory table (at + 1) (65536 - (at + 1)) ≡ whole
next_lines shown counts regions memory table at old new whole count inside same so_far made =
    let less : 65536 - at - 1 ≡ 65536 - (at + 1) = omega arith in
    subst (λ (n : ℕ). new ++ rest_lines shown counts regions memory table (at + 1) n ≡ whole) less
    (rest_next shown counts regions memory table at (65536 - at) old new whole count (omega arith) same so_far made)
