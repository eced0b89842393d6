-- Laws of an image's memory.
-- (8080 Assembly Language Programming Manual: a memory of 65536 bytes, by address.)
use Rattle.std.specs.Prelude.{◌≡◌, ℕ, ◌<◌, true, false, Option, None, Some, List, [], ◌∷◌, ◌++◌, length, filter, slice_index, refl, if◌then◌else◌}
use Rattle.std.specs.List.{last_or}
use Rattle.std.specs.Option.{option_map_or}
use Rattle.std.proofs.Common.{cond, ◌∙◌, ap, arith}
use Rattle.std.proofs.lemmas.List.FromFn.{length-map-range_with_len, get_or-map-range_with_len, fill_by_all}
use Rattle.image80.specs.Image.{PlacedBytes, covers, byte_of, last_over, byte_at, memory_of}

-- the last item of a list with one more item
last_or-snoc : {A : Type 0} (o : Option A) (xs : List A) (x : A) → last_or o (xs ++ x ∷ []) ≡ Some x
last_or-snoc o [] x = refl
last_or-snoc o (y ∷ xs) x = last_or-snoc (Some y) xs x

-- the last chunk over an address, after one more chunk
pub last_over-snoc : (o : Option PlacedBytes) (chunks : List PlacedBytes) (chunk : PlacedBytes) (address : ℕ) →
    last_or o (filter (λ c. covers c address) (chunks ++ chunk ∷ []))
    ≡ (if covers chunk address then Some chunk else last_or o (filter (λ c. covers c address) chunks))
last_over-snoc o [] chunk address =
    elim (covers chunk address) as (λ b. last_or o (cond b (chunk ∷ []) []) ≡ cond b (Some chunk) o)
    [ true ↦ refl | false ↦ refl ]
last_over-snoc o (c ∷ cs) chunk address =
    elim (covers c address) as (λ b.
    last_or o (cond b (c ∷ filter (λ c. covers c address) (cs ++ chunk ∷ []))
    (filter (λ c. covers c address) (cs ++ chunk ∷ [])))
    ≡ cond (covers chunk address) (Some chunk)
    (last_or o (cond b (c ∷ filter (λ c. covers c address) cs) (filter (λ c. covers c address) cs))))
    [ true ↦ last_over-snoc (Some c) cs chunk address | false ↦ last_over-snoc o cs chunk address ]

-- a later chunk hides what lies under it
pub byte_at-snoc : (chunks : List PlacedBytes) (chunk : PlacedBytes) (address : ℕ) →
    byte_at (chunks ++ chunk ∷ []) address ≡ (if covers chunk address then byte_of chunk address else byte_at chunks address)
byte_at-snoc chunks chunk address =
    ap (λ o. option_map_or (λ c. byte_of c address) o 0) (last_over-snoc None chunks chunk address)
    ∙ elim (covers chunk address) as (λ b.
    option_map_or (λ c. byte_of c address) (cond b (Some chunk) (last_over chunks address)) 0
    ≡ cond b (byte_of chunk address) (byte_at chunks address))
    [ true ↦ refl | false ↦ refl ]

-- a memory has 65536 bytes
pub length-memory_of : (chunks : List PlacedBytes) → length (memory_of chunks) ≡ 65536
unfolding memory_of
length-memory_of chunks = length-map-range_with_len (byte_at chunks) 0 65536

-- the byte of a memory at an address
pub memory_of-at : (chunks : List PlacedBytes) (address : ℕ) → address < 65536 →
    slice_index (memory_of chunks) address ≡ byte_at chunks address
unfolding memory_of
memory_of-at chunks address below = get_or-map-range_with_len (byte_at chunks) 0 65536 address address 0 below (omega arith)

-- a list of 65536 bytes with these bytes is the memory
pub memory_of-unique : (chunks : List PlacedBytes) (memory : List ℕ) → length memory ≡ 65536 →
    ((address : ℕ) → address < 65536 → slice_index memory address ≡ byte_at chunks address) → memory ≡ memory_of chunks
unfolding memory_of
memory_of-unique chunks memory whole same = fill_by_all (byte_at chunks) memory 65536 0 whole same
