-- The chunks of an image written into a memory, one after another.
use Rattle.std.specs.Prelude.{◌≡◌, ℕ, ◌+◌, ◌<◌, ◌≤◌, List, [], ◌∷◌, ◌++◌, length, take, slice_index, if◌then◌else◌}
use Rattle.std.proofs.Common.{◌∙◌, ap, sym, get_or}
use Rattle.std.proofs.lemmas.List.{take_more, take_all}
use Rattle.image80.specs.Image.{PlacedBytes, covers, byte_of, byte_at, memory_of}
use Rattle.image80.specs.Memory.{byte_at-snoc, memory_of-unique}
use Rattle.image80.specs.Placing.{Holds}

-- one more chunk
pub placed-more : (chunks : List PlacedBytes) (i : ℕ) (chunk : PlacedBytes) (before after : List ℕ) → i < length chunks → chunk ≡ get_or chunks i chunk →
    ((address : ℕ) → slice_index before address ≡ byte_at (take i chunks) address) → Holds before chunk after →
    (address : ℕ) → slice_index after address ≡ byte_at (take (i + 1) chunks) address
placed-more chunks i chunk before after inside here so_far holds address =
    let more : take i chunks ++ chunk ∷ [] ≡ take (i + 1) chunks = ap (λ (c : PlacedBytes). take i chunks ++ c ∷ []) here ∙ sym (take_more chunks i chunk inside) in
    holds.bytes address ∙ ap (λ (b : ℕ). if covers chunk address then byte_of chunk address else b) (so_far address) ∙ sym (byte_at-snoc (take i chunks) chunk address) ∙ ap (λ (l : List PlacedBytes). byte_at l address) more

-- all chunks
pub placed_all : (chunks : List PlacedBytes) (i : ℕ) (bytes : List ℕ) → length chunks ≤ i → length bytes ≡ 65536 →
    ((address : ℕ) → slice_index bytes address ≡ byte_at (take i chunks) address) → bytes ≡ memory_of chunks
placed_all chunks i bytes past whole same = memory_of-unique chunks bytes whole (λ address h. same address ∙ ap (λ (l : List PlacedBytes). byte_at l address) (take_all i chunks past))
