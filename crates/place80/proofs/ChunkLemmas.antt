-- The chunks of a located program lie in memory.
use Rattle.std.proofs.Common.{◌≡◌, ℕ, zero, suc, ◌+◌, ◌%◌, ◌<◌, ◌≤◌, Bool, true, false, cond, ◌&&◌, ◌||◌, List, [], ◌∷◌}
use Rattle.std.proofs.Common.{◌++◌, length, map, get_or, refl, sym, ap, subst, ◌∙◌, arith, inl, inr, eqb-true, eq-eqb}
use Rattle.std.specs.Prelude.{nat_lt, ◌==◌, None, Some, find, unwrap_or, All, IsTrue}
use Rattle.std.specs.List.{list_any, AllByRecursion}
use Rattle.std.proofs.lemmas.Bool.{cases_Bool, or_parts}
use Rattle.std.proofs.lemmas.Bool.Decides.{nat_tests}
use Rattle.std.proofs.lemmas.List.FromFn.{length-map-range_with_len}
use Rattle.std.proofs.lemmas.List.Elements.{All-head, All-tail, All-from_get_or, recursion_from_All}
use Rattle.omf_model.specs.Contents.{ContentValue}
use Rattle.omf_model.specs.Segments.{segment_in, has_segment, empty_segment}
use Rattle.omf_model.specs.Modules.{ModuleValue}
use Rattle.omf_model.specs.Place.{place_in}
use Rattle.omf_model.specs.ImageByte.{patch_of, ByteChunk, chunk_of, chunks_of}
use Rattle.omf_model.specs.Rules.{end_of, is_sound}
use Rattle.omf_model.specs.declared.patching.Patch.{Patch}
use Rattle.omf_model.specs.Patches.{byte_with, with_patches}
use Rattle.omf_model.specs.SoundModules.{LiesIn}
use Rattle.place80.specs.declared.options.Options.{Options}
use Rattle.place80.specs.declared.placed_segments.Placed.{Placed}
use Rattle.image80.specs.Image.{IsChunk}
use Rattle.place80.specs.Layout.{own_segment, nowhere, placed_in, base_in, top_in, layout_of, program_bases}
use Rattle.place80.specs.Locating.{placed_bytes}
use Rattle.place80.specs.PlaceFault.{passes_memory, is_outside}
use Rattle.place80.proofs.LayoutLemmas.{length_of_id, layout_lengths, layout_has}
use Rattle.place80.proofs.LocatedDisjoint.{EndsInMemory, ends_in_memory}
use Rattle.place80.proofs.PlaceLemmas.{ModuleLaws, place_of_id}
use Rattle.place80.proofs.OptionLemmas.{fails_all}

-- what holds of all segments holds of the one of an id that is there, and that one has the id
found_placed : (P : Placed → Type 0) (id : ℕ) (segments : List Placed) → list_any (λ p. p.id == id) segments ≡ true
    → All P segments →
    P (placed_in segments id) × ((placed_in segments id).id ≡ id)
found_placed P id [] there all = absurd cc
found_placed P id (p ∷ ps) there all =
    (elim (p.id == id) as (λ b. (p.id == id) ≡ b → (b || list_any (λ q. q.id == id) ps) ≡ true →
    P (unwrap_or (cond b (Some p) (find (λ q. q.id == id) ps)) (nowhere id))
    × ((unwrap_or (cond b (Some p) (find (λ q. q.id == id) ps)) (nowhere id)).id ≡ id)) [
      | true ↦ λ e _. (All-head P p ps all, eqb-true p.id id e)
      | false ↦ λ _ later. found_placed P id ps later (All-tail P p ps all)
    ]) refl there

-- a test that no item passes
none_passes : {A : Type 0} (test : A → Bool) (xs : List A) (i : ℕ) (d : A) → list_any test xs ≡ false → i < length xs
    → test (get_or xs i d) ≡ false
none_passes test [] i d none below = absurd (omega arith)
none_passes test (x ∷ xs) zero d none below = (or_parts (test x) (list_any test xs) none).0
none_passes test (x ∷ xs) (suc i) d none below =
    none_passes test xs i d (or_parts (test x) (list_any test xs) none).1 (omega arith)

-- a content of MEMORY lies within the length that MEMORY has
memory_holds : (contents : List ContentValue) (p : Placed) (i : ℕ) (d : ContentValue) → is_outside contents p ≡ false → p.id ≡ 4
    → i < length contents → (get_or contents i d).segment ≡ 4 →
    (get_or contents i d).offset + length (get_or contents i d).bytes ≤ p.length
memory_holds contents p i d inside is_memory below in_memory =
    let c : ContentValue = get_or contents i d in
    let any : (p.id == 4 && list_any (passes_memory p.length) contents) ≡ false =
    (or_parts (nat_lt 65536 (p.base + p.length)) (p.id == 4 && list_any (passes_memory p.length) contents) inside).1 in
    let none : list_any (passes_memory p.length) contents ≡ false =
    sym (ap (λ b. b && list_any (passes_memory p.length) contents) (eq-eqb p.id 4 is_memory)) ∙ any in
    let past : nat_lt p.length (c.offset + length c.bytes) ≡ false =
    sym (ap (λ b. b && nat_lt p.length (c.offset + length c.bytes)) (eq-eqb c.segment 4 in_memory))
    ∙ none_passes (passes_memory p.length) contents i d none below in
    grind (arith, nat_tests, past)

-- a segment that no option gives a length has its own
own_length : (options : Options) (m : ModuleValue) (id : ℕ) → has_segment m.commons id ≡ true → (id == 3) ≡ false
    → (id == 4) ≡ false → length_of_id options m id ≡ (segment_in m.segments id).length
own_length options m id has not_stack not_memory =
    ap (λ b. unwrap_or (cond b options.stack_size (cond (id == 4) options.memory_size None)) (own_segment m id).length) not_stack
    ∙ ap (λ b. unwrap_or (cond b options.memory_size None) (own_segment m id).length) not_memory
    ∙ ap (λ b. (unwrap_or (cond b (Some (segment_in m.segments id)) None) empty_segment).length) has

-- what holds of all items holds of the one at a place
pub all_at : {A : Type 0} (P : A → Type 0) (xs : List A) (i : ℕ) (d : A) → AllByRecursion P xs → i < length xs → P (get_or xs i d)
all_at P [] i d all below = absurd (omega arith)
all_at P (x ∷ xs) zero d all below = all.0
all_at P (x ∷ xs) (suc i) d all below = all_at P xs i d all.1 (omega arith)

-- a content lies within the segment that is placed for it
content_within : ModuleLaws → (options : Options) (m : ModuleValue) (i : ℕ) (d : ContentValue) → IsTrue (is_sound m)
    → find (is_outside m.contents) (layout_of options m) ≡ None →
    i < length m.contents → LiesIn m (get_or m.contents i d) → ((get_or m.contents i d).segment == 0) ≡ false →
    base_in (layout_of options m) (get_or m.contents i d).segment + (get_or m.contents i d).offset + length
    (get_or m.contents i d).bytes ≤ 65536
content_within laws options m i d sound none below lies not_absolute =
    let c : ContentValue = get_or m.contents i d in
    let segments : List Placed = layout_of options m in
    let p : Placed = placed_in segments c.segment in
    let there : list_any (λ q. q.id == c.segment) segments ≡ true =
    layout_has options m c.segment (laws.rules m sound).ids lies.has not_absolute in
    let ends = found_placed EndsInMemory c.segment segments there (ends_in_memory m.contents segments none) in
    let inside = found_placed (λ q. is_outside m.contents q ≡ false) c.segment segments there
    (fails_all (is_outside m.contents) segments none) in
    let long = found_placed (λ q. q.length ≡ length_of_id options m q.id) c.segment segments there (layout_lengths options m) in
    let within : c.offset + length c.bytes ≤ p.length =
    elim (cases_Bool (c.segment == 4)) [
      | inl e ↦
          let is_four : c.segment ≡ 4 = eqb-true c.segment 4 e in
          memory_holds m.contents p i d inside.0 (inside.1 ∙ is_four) below is_four
      | inr e ↦
          let own : p.length ≡ (segment_in m.segments c.segment).length = long.0 ∙ ap (length_of_id options m) long.1
          ∙ own_length options m c.segment lies.has lies.not_stack e in
          let limit : end_of m.segments c.segment ≡ (segment_in m.segments c.segment).length =
          ap (λ b. cond b 65536 (segment_in m.segments c.segment).length) not_absolute in
          let held : c.offset + length c.bytes ≤ end_of m.segments c.segment = lies.within in
          omega (arith, own, limit, held)
    ] in
    let last : p.base + p.length ≤ 65536 = ends.0 in
    omega (arith, within, last)

-- the place of a content and its bytes lie in memory
ends_at_word : (n long : ℕ) → n + long ≤ 65536 → n % 65536 + long ≤ 65536
ends_at_word n long ends = omega arith

pub content_in_memory : ModuleLaws → (options : Options) (m : ModuleValue) (i : ℕ) (d : ContentValue) → IsTrue (is_sound m)
    → find (is_outside m.contents) (layout_of options m) ≡ None → i < length m.contents →
    place_in (program_bases options m) (m ∷ []) 0 m (get_or m.contents i d).segment (get_or m.contents i d).offset + length
    (get_or m.contents i d).bytes ≤ 65536
content_in_memory laws options m i d sound none below =
    let c : ContentValue = get_or m.contents i d in
    let segments : List Placed = layout_of options m in
    let lies : LiesIn m c = all_at (LiesIn m) m.contents i d (laws.rules m sound).contents below in
    let place = place_of_id laws segments m c.segment c.offset (laws.rules m sound).commons lies.has in
    subst (λ n. n + length c.bytes ≤ 65536) (sym place)
    ((elim (c.segment == 0) as (λ b. (c.segment == 0) ≡ b
    → cond b c.offset (cond (c.segment == 3) ((top_in segments + c.offset) % 65536)
    ((base_in segments c.segment + c.offset) % 65536)) + length c.bytes ≤ 65536) [
      | true ↦ λ e.
          let limit : end_of m.segments c.segment ≡ 65536 = ap (λ b. cond b 65536 (segment_in m.segments c.segment).length) e in
          let held : c.offset + length c.bytes ≤ end_of m.segments c.segment = lies.within in
          omega (arith, limit, held)
      | false ↦ λ e.
          subst (λ b. cond b ((top_in segments + c.offset) % 65536)
          ((base_in segments c.segment + c.offset) % 65536) + length c.bytes ≤ 65536) (sym lies.not_stack)
          (ends_at_word (base_in segments c.segment + c.offset) (length c.bytes)
          (content_within laws options m i d sound none below lies e))
    ]) refl)

length-with_patches : (patches : List Patch) (bytes : List ℕ) → length (with_patches patches bytes) ≡ length bytes
length-with_patches patches bytes = length-map-range_with_len (byte_with patches bytes) 0 (length bytes)

-- each content's chunk is one
pub content_is_chunk : ModuleLaws → (options : Options) (m : ModuleValue) (i : ℕ) (d : ContentValue) → IsTrue (is_sound m)
    → find (is_outside m.contents) (layout_of options m) ≡ None → i < length m.contents →
    IsChunk (placed_bytes (chunk_of (program_bases options m) (m ∷ []) (0, m) (get_or m.contents i d)))
content_is_chunk laws options m i d sound none below =
    let c : ContentValue = get_or m.contents i d in
    let lies : LiesIn m c = all_at (LiesIn m) m.contents i d (laws.rules m sound).contents below in
    let long = length-with_patches (map (patch_of (program_bases options m) (m ∷ []) (0, m) c) c.fixups) c.bytes in
    let short : length c.bytes ≤ 65531 = lies.in_record in
    let ends = content_in_memory laws options m i d sound none below in
    record { in_record = omega (arith, long, short); in_memory = omega (arith, long, ends) }

-- all chunks do
pub record InMemory (c : ByteChunk) : Type 0 where
  pub in_memory : c.place + length c.bytes ≤ 65536

from_contents : (make : ContentValue → ByteChunk) (cs : List ContentValue)
    → AllByRecursion (λ c. IsChunk (placed_bytes (make c))) cs → AllByRecursion InMemory (map make cs ++ [])
from_contents make [] all = _
from_contents make (c ∷ cs) all = (record { in_memory = all.0.in_memory }, from_contents make cs all.1)

pub chunks_in_memory : ModuleLaws → (options : Options) (m : ModuleValue) → IsTrue (is_sound m)
    → find (is_outside m.contents) (layout_of options m) ≡ None
    → AllByRecursion InMemory (chunks_of (program_bases options m) (m ∷ []))
chunks_in_memory laws options m sound none =
    let make : ContentValue → ByteChunk = chunk_of (program_bases options m) (m ∷ []) (0, m) in
    let d : ContentValue = record { segment = 0; offset = 0; bytes = []; fixups = [] } in
    from_contents make m.contents (recursion_from_All (λ c. IsChunk (placed_bytes (make c))) m.contents
    (All-from_get_or (λ c. IsChunk (placed_bytes (make c))) m.contents d
    (λ i below. content_is_chunk laws options m i d sound none below)))
