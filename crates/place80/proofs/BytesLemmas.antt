-- The bytes of a located program are those of its image.
use Rattle.std.proofs.Common.{◌≡◌, ℕ, ◌+◌, ◌-◌, ◌<◌, ◌≤◌, Bool, true, cond, ◌&&◌, List, [], ◌∷◌, length, map, refl, sym, ap, ◌∙◌, arith, inl, inr}
use Rattle.std.specs.Prelude.{nat_le, nat_lt, Option, None, Some, filter, find, slice_index, IsTrue}
use Rattle.std.specs.List.{last_or, AllByRecursion}
use Rattle.std.specs.Option.{option_map_or}
use Rattle.std.proofs.lemmas.Bool.{cases_Bool, cases_lt, and_parts, leb-true, ltb-true, and_left, and_right, and_from, lt-ltb, le-ltb, le-leb, lt-leb}
use Rattle.omf_model.specs.Modules.{ModuleValue}
use Rattle.omf_model.specs.Rules.{is_sound}
use Rattle.omf_model.specs.ImageByte.{ByteChunk, distance, chunk_covers, chunks_of, image_byte}
use Rattle.place80.specs.declared.options.Options.{Options}
use Rattle.image80.specs.Image.{PlacedBytes, covers, byte_of, byte_at}
use Rattle.place80.specs.Layout.{layout_of, program_bases}
use Rattle.place80.specs.Locating.{placed_bytes, located_chunks}
use Rattle.place80.specs.PlaceFault.{is_outside}
use Rattle.place80.proofs.ChunkLemmas.{InMemory, chunks_in_memory}
use Rattle.place80.proofs.PlaceLemmas.{ModuleLaws}

-- ---- a chunk that ends with memory or before it

distance_is : (place long address : ℕ) → place + long ≤ 65536 → place ≤ address → address < place + long
    → distance place address ≡ address - place
distance_is place long address ends above below = omega (arith, ends, above, below)

far_before : (place long address : ℕ) → place + long ≤ 65536 → address < place → long ≤ distance place address
far_before place long address ends below = omega (arith, ends, below)

far_after : (place long address : ℕ) → place + long ≤ 65536 → place + long ≤ address → address < 65536
    → long ≤ distance place address
far_after place long address ends above below = omega (arith, ends, above, below)

covers_same : (place long address : ℕ) → place + long ≤ 65536
    → (nat_le place address && nat_lt address (place + long)) ≡ (nat_lt address 65536 && nat_lt (distance place address) long)
covers_same place long address ends = elim (cases_lt address place) [
  | inl before ↦
      and_left (nat_le place address) (nat_lt address (place + long)) (lt-leb place address before)
      ∙ sym (and_right (nat_lt address 65536) (nat_lt (distance place address) long)
      (le-ltb (distance place address) long (far_before place long address ends before)))
  | inr above ↦ elim (cases_lt address (place + long)) [
    | inl below ↦
        let near : distance place address < long = omega (arith, distance_is place long address ends above below, above, below) in
        and_from (nat_le place address) (nat_lt address (place + long)) (le-leb place address above)
        (lt-ltb address (place + long) below)
        ∙ sym (and_from (nat_lt address 65536) (nat_lt (distance place address) long)
        (lt-ltb address 65536 (omega (arith, ends, below))) (lt-ltb (distance place address) long near))
    | inr past ↦
        and_right (nat_le place address) (nat_lt address (place + long)) (le-ltb address (place + long) past)
        ∙ sym (elim (cases_lt address 65536) [
          | inl inside ↦ and_right (nat_lt address 65536) (nat_lt (distance place address) long)
              (le-ltb (distance place address) long (far_after place long address ends past inside))
          | inr outside ↦ and_left (nat_lt address 65536) (nat_lt (distance place address) long) (le-ltb address 65536 outside)
        ])
  ]
]

byte_same : (c : ByteChunk) (address : ℕ) → InMemory c → chunk_covers address c ≡ true
    → byte_of (placed_bytes c) address ≡ slice_index c.bytes (distance c.place address)
byte_same c address ends over =
    let here = and_parts (nat_le c.place address) (nat_lt address (c.place + length c.bytes))
    (covers_same c.place (length c.bytes) address ends.in_memory ∙ over) in
    ap (slice_index c.bytes)
    (sym (distance_is c.place (length c.bytes) address ends.in_memory (leb-true c.place address here.0)
    (ltb-true address (c.place + length c.bytes) here.1)))

-- ---- the last chunk over an address

abbrev byte_in : ℕ → Option PlacedBytes → ℕ
byte_in address o = option_map_or (λ chunk. byte_of chunk address) o 0

abbrev byte_from : ℕ → Option ByteChunk → ℕ
byte_from address o = option_map_or (λ c. slice_index c.bytes (distance c.place address)) o 0

last_same : (address : ℕ) (chunks : List ByteChunk) (o : Option PlacedBytes) (p : Option ByteChunk)
    → AllByRecursion InMemory chunks → byte_in address o ≡ byte_from address p →
    byte_in address (last_or o (filter (λ chunk. covers chunk address) (map placed_bytes chunks)))
    ≡ byte_from address (last_or p (filter (chunk_covers address) chunks))
last_same address [] o p ends same = same
last_same address (c ∷ cs) o p ends same =
    let placed : List PlacedBytes = filter (λ chunk. covers chunk address) (map placed_bytes cs) in
    let over : List ByteChunk = filter (chunk_covers address) cs in
    let tests : covers (placed_bytes c) address ≡ chunk_covers address c =
    covers_same c.place (length c.bytes) address ends.0.in_memory in
    elim (cases_Bool (chunk_covers address c)) [
      | inl yes_over ↦
          ap (λ (b : Bool). byte_in address (last_or o (cond b (placed_bytes c ∷ placed) placed))) (tests ∙ yes_over)
          ∙ last_same address cs (Some (placed_bytes c)) (Some c) ends.1 (byte_same c address ends.0 yes_over)
          ∙ sym (ap (λ (b : Bool). byte_from address (last_or p (cond b (c ∷ over) over))) yes_over)
      | inr not_over ↦
          ap (λ (b : Bool). byte_in address (last_or o (cond b (placed_bytes c ∷ placed) placed))) (tests ∙ not_over)
          ∙ last_same address cs o p ends.1 same
          ∙ sym (ap (λ (b : Bool). byte_from address (last_or p (cond b (c ∷ over) over))) not_over)
    ]

-- each byte of the located program is the byte of its image
pub located_byte : ModuleLaws → (options : Options) (m : ModuleValue) (address : ℕ) → IsTrue (is_sound m)
    → find (is_outside m.contents) (layout_of options m) ≡ None →
    byte_at (located_chunks options m) address ≡ image_byte (program_bases options m) (m ∷ []) address
located_byte laws options m address sound none =
    last_same address (chunks_of (program_bases options m) (m ∷ [])) None None (chunks_in_memory laws options m sound none) refl
