-- The ranges of placed segments that lie in memory and of which no two overlap.
use Rattle.std.proofs.Common.{◌≡◌, ℕ, ◌+◌, ◌<◌, ◌≤◌, Bool, true, false, cond, ◌&&◌, ◌||◌, List, [], ◌∷◌, map, arith}
use Rattle.std.specs.Prelude.{not, nat_lt, ◌==◌, None, Some, filter, find, unwrap_or, All}
use Rattle.std.specs.List.{list_any}
use Rattle.std.proofs.lemmas.Bool.{ltb-true, or_parts}
use Rattle.std.proofs.lemmas.Bool.Decides.{nat_tests}
use Rattle.std.proofs.lemmas.List.Elements.{All-nil, All-cons, All-head, All-tail, All-filter, All-map, All-weaker, filter_passes}
use Rattle.omf_model.specs.Contents.{ContentValue}
use Rattle.image80.specs.declared.range.Range.{Range}
use Rattle.place80.specs.declared.placed_segments.Placed.{Placed}
use Rattle.image80.specs.Range.{IsInMemory}
use Rattle.image80.specs.RegionsText.{filled}
use Rattle.place80.specs.Layout.{nowhere, placed_in}
use Rattle.place80.specs.PlaceFault.{passes_memory, is_outside}
use Rattle.place80.specs.Locating.{range_at, located_code, located_stack, located_data}
use Rattle.place80.proofs.OptionLemmas.{fails_all}

-- no range of these is empty
pub filled_not_empty : (ranges : List Range) → All (λ range. 0 < range.length) (filled ranges)
filled_not_empty ranges =
    All-weaker (λ range. nat_lt 0 range.length ≡ true) (λ range. 0 < range.length) (λ range some. ltb-true 0 range.length some)
    (filled ranges) (filter_passes (λ range. nat_lt 0 range.length) ranges)

pub code_not_empty : (segments : List Placed) → All (λ range. 0 < range.length) (located_code segments)
code_not_empty segments = filled_not_empty (map range_at (filter (λ p. p.id == 1) segments))

pub data_not_empty : (segments : List Placed) → All (λ range. 0 < range.length) (located_data segments)
data_not_empty segments = filled_not_empty (map range_at (filter (λ p. not (p.id == 1 || p.id == 3)) segments))

-- a placed segment that ends with memory or before
abbrev pub EndsInMemory : Placed → Type 0
EndsInMemory p = p.base + p.length ≤ 65536

abbrev pub HasWord : Placed → Type 0
HasWord p = p.length < 65536

not_past : (end : ℕ) (other : Bool) → (nat_lt 65536 end || other) ≡ false → end ≤ 65536
not_past end other inside = let none = or_parts (nat_lt 65536 end) other inside in grind (arith, nat_tests, none.0)

pub ends_in_memory : (contents : List ContentValue) (segments : List Placed) → find (is_outside contents) segments ≡ None
    → All EndsInMemory segments
ends_in_memory contents segments none =
    All-weaker (λ p. is_outside contents p ≡ false) EndsInMemory
    (λ p inside. not_past (p.base + p.length) (p.id == 4 && list_any (passes_memory p.length) contents) inside) segments
    (fails_all (is_outside contents) segments none)

-- its range lies in memory
range_in_memory : (p : Placed) → EndsInMemory p → HasWord p → IsInMemory (range_at p)
range_in_memory p ends word = record { first = omega arith; length = word; «end» = omega arith }

all_both : {A : Type 0} (P Q R : A → Type 0) (xs : List A) → ((x : A) → P x → Q x → R x) → All P xs → All Q xs → All R xs
all_both P Q R [] gives ps qs = All-nil R
all_both P Q R (x ∷ xs) gives ps qs =
    All-cons R x xs (gives x (All-head P x xs ps) (All-head Q x xs qs))
    (all_both P Q R xs gives (All-tail P x xs ps) (All-tail Q x xs qs))

ranges_in_memory : (segments : List Placed) → All EndsInMemory segments → All HasWord segments
    → All (λ p. IsInMemory (range_at p)) segments
ranges_in_memory segments ends words =
    all_both EndsInMemory HasWord (λ p. IsInMemory (range_at p)) segments range_in_memory ends words

chosen_in_memory : (test : Placed → Bool) (segments : List Placed) → All EndsInMemory segments → All HasWord segments
    → All IsInMemory (filled (map range_at (filter test segments)))
chosen_in_memory test segments ends words =
    All-filter (λ range. nat_lt 0 range.length) IsInMemory (map range_at (filter test segments))
    (All-map IsInMemory range_at (filter test segments)
    (All-filter test (λ p. IsInMemory (range_at p)) segments (ranges_in_memory segments ends words)))

pub code_in_memory : (segments : List Placed) → All EndsInMemory segments → All HasWord segments
    → All IsInMemory (located_code segments)
code_in_memory segments ends words = chosen_in_memory (λ p. p.id == 1) segments ends words

pub data_in_memory : (segments : List Placed) → All EndsInMemory segments → All HasWord segments
    → All IsInMemory (located_data segments)
data_in_memory segments ends words = chosen_in_memory (λ p. not (p.id == 1 || p.id == 3)) segments ends words

-- the segment that is found, or else none at 0
pub found_all : (P : Placed → Type 0) (id : ℕ) (segments : List Placed) → P (nowhere id) → All P segments
    → P (placed_in segments id)
found_all P id [] none all = none
found_all P id (p ∷ ps) none all =
    elim (p.id == id) as (λ b. P (unwrap_or (cond b (Some p) (find (λ q. q.id == id) ps)) (nowhere id))) [
      | true ↦ All-head P p ps all
      | false ↦ found_all P id ps none (All-tail P p ps all)
    ]

pub stack_in_memory : (segments : List Placed) → All EndsInMemory segments → All HasWord segments
    → IsInMemory (located_stack segments)
stack_in_memory segments ends words =
    found_all (λ p. IsInMemory (range_at p)) 3 segments (range_in_memory (nowhere 3) (omega arith) (omega arith))
    (ranges_in_memory segments ends words)
