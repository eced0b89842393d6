-- The memory of the chunks of bytes.
use Rattle.std.specs.Prelude.{◌≡◌, ◌↔◌, ℕ, ◌+◌, ◌-◌, ◌<◌, ◌≤◌, min, nat_le, ◌||◌, if◌then◌else◌, Bool, true, false, None, Some, List, [], ◌∷◌, ◌++◌, length, take, drop, slice_index, refl}
use Rattle.std.specs.Option.{option_map_or}
use Rattle.std.proofs.Common.{cond, ◌∙◌, ap, sym, arith, get_or, append-nil, append_assoc, ext_get_or, get_or-take, get_or-drop, length-take, length-drop, take_all}
use Rattle.std.proofs.lemmas.List.Folds.{list_any-append}
use Rattle.std.proofs.lemmas.Bool.Decides.{nat_tests}
use Rattle.std.proofs.lemmas.List.{drop_all, take_more}
use Rattle.std.proofs.lemmas.List.FromFn.{length-map-range_with_len, get_or-map-range_with_len}
use Rattle.image80.specs.Image.{PlacedBytes, covers, byte_of, last_over}
use Rattle.image80.specs.Memory.{last_over-snoc}
use Rattle.image80.specs.Placing.{Holds}
use Rattle.rom80.specs.Rom.{byte_or, bytes_over, chunks_at, chunks_of, byte_among, is_among as inside, is_covered, ShareAnAddress}

-- one more chunk hides what lies under it
pub byte_or-snoc : (fill : ℕ) (chunks : List PlacedBytes) (chunk : PlacedBytes) (address : ℕ) →
    byte_or fill (chunks ++ chunk ∷ []) address ≡ (if covers chunk address then byte_of chunk address else byte_or fill chunks address)
byte_or-snoc fill chunks chunk address =
    ap (λ o. option_map_or (λ c. byte_of c address) o fill) (last_over-snoc None chunks chunk address)
    ∙ elim (covers chunk address) as (λ b.
    option_map_or (λ c. byte_of c address) (cond b (Some chunk) (last_over chunks address)) fill
    ≡ cond b (byte_of chunk address) (byte_or fill chunks address))
    [ true ↦ refl | false ↦ refl ]

byte_or-more : (fill : ℕ) (chunks : List PlacedBytes) (first : ℕ) (bytes : List ℕ) (address : ℕ) →
    byte_or fill (chunks ++ chunks_at first bytes) address ≡ byte_among first bytes (byte_or fill chunks address) address
byte_or-more fill chunks first [] address =
    let none : inside first 0 address ≡ false = grind (arith, nat_tests) in
    ap (λ cs. byte_or fill cs address) (append-nil chunks) ∙ rw none refl
byte_or-more fill chunks first (b ∷ bs) address = byte_or-snoc fill chunks (record { address = first; bytes = b ∷ bs }) address

-- where an address is one of them, and where not
is_inside : (first count address : ℕ) → inside first count address ≡ true → (first ≤ address) × (address < first + count)
is_inside first count address e = (grind (arith, nat_tests), grind (arith, nat_tests))

is_outside : (first count address : ℕ) → inside first count address ≡ false → first ≤ address → first + count ≤ address
is_outside first count address e from = grind (arith, nat_tests)

-- the bytes of two chunks that lie side by side are those of one
module _ (other first address : ℕ) (bytes : List ℕ) where
  high : inside (first + 65531) (length (drop 65531 bytes)) address ≡ true → slice_index (drop 65531 bytes) (address - (first + 65531)) ≡ slice_index bytes (address - first)
  high e =
      let there = is_inside (first + 65531) (length (drop 65531 bytes)) address e in
      let same : 65531 + (address - (first + 65531)) ≡ address - first = omega (arith, there.0) in
      get_or-drop 65531 bytes (address - (first + 65531)) 0 ∙ ap (slice_index bytes) same

  low : inside first (length (take 65531 bytes)) address ≡ true → slice_index (take 65531 bytes) (address - first) ≡ slice_index bytes (address - first)
  low e =
      let there = is_inside first (length (take 65531 bytes)) address e in
      get_or-take 65531 bytes (address - first) 0 (omega (arith, there.0, there.1, length-take 65531 bytes))

  side_by_side : (h l a : Bool) → inside (first + 65531) (length (drop 65531 bytes)) address ≡ h → inside first (length (take 65531 bytes)) address ≡ l → inside first (length bytes) address ≡ a →
      (if h then slice_index (drop 65531 bytes) (address - (first + 65531)) else if l then slice_index (take 65531 bytes) (address - first) else other)
      ≡ (if a then slice_index bytes (address - first) else other)
  side_by_side true l true eh el ea = high eh
  side_by_side true l false eh el ea =
      let there = is_inside (first + 65531) (length (drop 65531 bytes)) address eh in
      absurd (omega (arith, there.0, there.1, is_outside first (length bytes) address ea (omega (arith, there.0)), length-drop 65531 bytes))
  side_by_side false true true eh el ea = low el
  side_by_side false true false eh el ea =
      let there = is_inside first (length (take 65531 bytes)) address el in
      absurd (omega (arith, there.1, is_outside first (length bytes) address ea there.0, length-take 65531 bytes))
  side_by_side false false true eh el ea =
      let there = is_inside first (length bytes) address ea in
      let past = is_outside first (length (take 65531 bytes)) address el there.0 in
      absurd (omega (arith, there.1, past, length-take 65531 bytes, length-drop 65531 bytes, is_outside (first + 65531) (length (drop 65531 bytes)) address eh (omega (arith, there.1, past, length-take 65531 bytes))))
  side_by_side false false false eh el ea = refl

-- and hide what lies under them
pub byte_or-chunks : (fill : ℕ) (chunks : List PlacedBytes) (first : ℕ) (bytes : List ℕ) (address : ℕ) →
    byte_or fill (chunks ++ chunks_of first bytes) address ≡ byte_among first bytes (byte_or fill chunks address) address
byte_or-chunks fill chunks first bytes address =
    let before : List PlacedBytes = chunks ++ chunks_at first (take 65531 bytes) in
    let whole : before ++ chunks_at (first + 65531) (drop 65531 bytes) ≡ chunks ++ chunks_of first bytes = append_assoc chunks (chunks_at first (take 65531 bytes)) (chunks_at (first + 65531) (drop 65531 bytes)) in
    ap (λ (cs : List PlacedBytes). byte_or fill cs address) (sym whole)
    ∙ byte_or-more fill before (first + 65531) (drop 65531 bytes) address
    ∙ ap (λ (n : ℕ). if inside (first + 65531) (length (drop 65531 bytes)) address then slice_index (drop 65531 bytes) (address - (first + 65531)) else n) (byte_or-more fill chunks first (take 65531 bytes) address)
    ∙ side_by_side (byte_or fill chunks address) first address bytes _ _ _ refl refl refl

pub chunks_hold : (fill first : ℕ) (bytes : List ℕ) (address : ℕ) → byte_or fill (chunks_of first bytes) address ≡ byte_among first bytes fill address
chunks_hold fill first bytes address = byte_or-chunks fill [] first bytes address

-- the addresses that they cover
covered-at : (first : ℕ) (bytes : List ℕ) (address : ℕ) → is_covered (chunks_at first bytes) address ≡ inside first (length bytes) address
covered-at first [] address =
    let none : inside first 0 address ≡ false = grind (arith, nat_tests) in
    sym none
covered-at first (b ∷ bs) address =
    elim (inside first (length (b ∷ bs)) address) as (λ (x : Bool). (x || false) ≡ x) [ true ↦ refl | false ↦ refl ]

two_parts : (first count address : ℕ) (l h a : Bool) → inside first (min 65531 count) address ≡ l → inside (first + 65531) (count - 65531) address ≡ h → inside first count address ≡ a → (l || h) ≡ a
two_parts first count address l h a el eh ea = grind (arith, nat_tests)

pub covered-chunks : (chunks : List PlacedBytes) (first : ℕ) (bytes : List ℕ) (address : ℕ) →
    is_covered (chunks ++ chunks_of first bytes) address ≡ (is_covered chunks address || inside first (length bytes) address)
covered-chunks chunks first bytes address =
    let low : is_covered (chunks_at first (take 65531 bytes)) address ≡ inside first (min 65531 (length bytes)) address =
    covered-at first (take 65531 bytes) address ∙ ap (λ (n : ℕ). inside first n address) (length-take 65531 bytes) in
    let high : is_covered (chunks_at (first + 65531) (drop 65531 bytes)) address ≡ inside (first + 65531) (length bytes - 65531) address =
    covered-at (first + 65531) (drop 65531 bytes) address ∙ ap (λ (n : ℕ). inside (first + 65531) n address) (length-drop 65531 bytes) in
    let both : is_covered (chunks_of first bytes) address ≡ (is_covered (chunks_at first (take 65531 bytes)) address || is_covered (chunks_at (first + 65531) (drop 65531 bytes)) address) =
    list_any-append (λ (c : PlacedBytes). covers c address) (chunks_at first (take 65531 bytes)) (chunks_at (first + 65531) (drop 65531 bytes)) in
    list_any-append (λ (c : PlacedBytes). covers c address) chunks (chunks_of first bytes)
    ∙ ap (λ (b : Bool). is_covered chunks address || b) (both ∙ ap (λ (b : Bool). b || is_covered (chunks_at (first + 65531) (drop 65531 bytes)) address) low ∙ ap (λ (b : Bool). inside first (min 65531 (length bytes)) address || b) high ∙ two_parts first (length bytes) address _ _ _ refl refl refl)

-- the byte at each address of their range
among-at : (first : ℕ) (bytes : List ℕ) (other k : ℕ) → k < length bytes → byte_among first bytes other (first + k) ≡ get_or bytes k 0
among-at first bytes other k below =
    let here : inside first (length bytes) (first + k) ≡ true = grind (arith, nat_tests) in
    let offset : first + k - first ≡ k = omega arith in
    rw here (ap (slice_index bytes) offset)

pub taken_out : (fill first : ℕ) (bytes : List ℕ) → bytes_over fill (chunks_of first bytes) first (length bytes) ≡ bytes
taken_out fill first bytes =
    let size = length-map-range_with_len (byte_or fill (chunks_of first bytes)) first (length bytes) in
    ext_get_or 0 _ _ size (λ k below.
    let within : k < length bytes = omega (arith, below, size) in
    get_or-map-range_with_len (byte_or fill (chunks_of first bytes)) first (length bytes) k (first + k) 0 within refl
    ∙ chunks_hold fill first bytes (first + k)
    ∙ among-at first bytes fill k within)

-- a part of a memory
pub memory_part : (fill : ℕ) (chunks : List PlacedBytes) (memory : List ℕ) (first count : ℕ) → length memory ≡ 65536 →
    ((address : ℕ) → address < 65536 → slice_index memory address ≡ byte_or fill chunks address) → first + count ≤ 65536 →
    take count (drop first memory) ≡ bytes_over fill chunks first count
memory_part fill chunks memory first count whole is fits =
    let size : length (take count (drop first memory)) ≡ count = omega (arith, whole, length-take count (drop first memory), length-drop first memory) in
    ext_get_or 0 _ _ (size ∙ sym (length-map-range_with_len (byte_or fill chunks) first count)) (λ k below.
    let within : k < count = omega (arith, below, size) in
    get_or-take count (drop first memory) k 0 within
    ∙ get_or-drop first memory k 0
    ∙ is (first + k) (omega arith)
    ∙ sym (get_or-map-range_with_len (byte_or fill chunks) first count k (first + k) 0 within refl))

-- bytes that are split at 65531, or at their end
split-short : (bytes : List ℕ) (n : ℕ) → length bytes ≤ n → (take (length bytes) bytes ≡ take n bytes) × (drop (length bytes) bytes ≡ drop n bytes)
split-short bytes n short =
    (take_all (length bytes) bytes (omega arith) ∙ sym (take_all n bytes short), drop_all (length bytes) bytes (omega arith) ∙ sym (drop_all n bytes short))

split-at : (b : Bool) (bytes : List ℕ) (n split : ℕ) → nat_le (length bytes) n ≡ b → split ≡ min (length bytes) n → (take split bytes ≡ take n bytes) × (drop split bytes ≡ drop n bytes)
split-at true bytes n split e is =
    let short : length bytes ≤ n = grind (arith, nat_tests) in
    let same : split ≡ length bytes = omega (arith, is) in
    rw same (split-short bytes n short)
split-at false bytes n split e is =
    let long : n < length bytes = grind (arith, nat_tests) in
    let same : split ≡ n = omega (arith, is) in
    rw same (refl, refl)

pub split_at : (bytes : List ℕ) (n split : ℕ) → split ≡ min (length bytes) n → (take split bytes ≡ take n bytes) × (drop split bytes ≡ drop n bytes)
split_at bytes n split is = split-at (nat_le (length bytes) n) bytes n split refl is

-- one more chunk that is written into a memory
pub placed-more : (fill : ℕ) (chunks : List PlacedBytes) (i : ℕ) (chunk : PlacedBytes) (before after : List ℕ) → i < length chunks → chunk ≡ get_or chunks i chunk →
    ((address : ℕ) → address < 65536 → slice_index before address ≡ byte_or fill (take i chunks) address) → Holds before chunk after →
    (address : ℕ) → address < 65536 → slice_index after address ≡ byte_or fill (take (i + 1) chunks) address
placed-more fill chunks i chunk before after inside here so_far holds address below =
    let more : take i chunks ++ chunk ∷ [] ≡ take (i + 1) chunks = ap (λ (c : PlacedBytes). take i chunks ++ c ∷ []) here ∙ sym (take_more chunks i chunk inside) in
    holds.bytes address ∙ ap (λ (b : ℕ). if covers chunk address then byte_of chunk address else b) (so_far address below) ∙ sym (byte_or-snoc fill (take i chunks) chunk address) ∙ ap (λ (l : List PlacedBytes). byte_or fill l address) more

-- all chunks
pub placed-all : (fill : ℕ) (chunks : List PlacedBytes) (i : ℕ) (bytes : List ℕ) → length chunks ≤ i →
    ((address : ℕ) → address < 65536 → slice_index bytes address ≡ byte_or fill (take i chunks) address) →
    (address : ℕ) → address < 65536 → slice_index bytes address ≡ byte_or fill chunks address
placed-all fill chunks i bytes past same address below = same address below ∙ ap (λ (l : List PlacedBytes). byte_or fill l address) (take_all i chunks past)

-- an answer of the test whether addresses are shared
pub not_shared : (chunks : List PlacedBytes) (first count : ℕ) (shared : Bool) → shared ≡ false → (shared ≡ true ↔ ShareAnAddress chunks first count) → ShareAnAddress chunks first count → ⊥
not_shared chunks first count shared off both share = let on : shared ≡ true = both.1 share in cc
