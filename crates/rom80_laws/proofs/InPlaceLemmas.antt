-- Where contents of the one module that is located lie: in their placed segments, which share no address.
use Rattle.std.proofs.Common.{◌≡◌, ℕ, suc, ◌+◌, ◌-◌, ◌%◌, ◌<◌, ◌≤◌, Bool, true, false, cond, ◌||◌, List, [], ◌∷◌, length, map, refl, sym, ap, subst, ◌∙◌, arith, inl, inr, eqb-true, eq-eqb, true≢false}
use Rattle.std.specs.Prelude.{◌==◌, nat_lt, nat_le, None, Some, find, unwrap_or, All, AllPairs, IsTrue}
use Rattle.std.specs.List.{AllByRecursion, list_any}
use Rattle.std.proofs.lemmas.Bool.{cases_Bool, and_parts, and_from, ltb-true, lt-ltb, le-leb}
use Rattle.std.proofs.lemmas.List.FromFn.{length-map-range_with_len}
use Rattle.std.proofs.lemmas.List.Elements.{All-head, All-tail, All-from_recursion, recursion_from_All}
use Rattle.omf_model.specs.Contents.{ContentValue}
use Rattle.omf_model.specs.Segments.{has_segment, has_common_id}
use Rattle.omf_model.specs.Modules.{ModuleValue}
use Rattle.omf_model.specs.Rules.{each_after, is_new_common}
use Rattle.omf_model.specs.Patches.{byte_with}
use Rattle.omf_model.specs.ImageByte.{patch_of, ByteChunk, chunk_of, chunk_covers, distance}
use Rattle.place80.specs.declared.options.Options.{Options}
use Rattle.place80.specs.declared.placed_segments.Placed.{Placed}
use Rattle.place80.specs.Layout.{given_length, own_segment, nowhere, placed_in, base_in, top_in, layout_of, program_bases}
use Rattle.place80.specs.LayoutLaws.{HasItsLength, LayoutIsLaidOut, SegmentsArePlaced, PlacesAreBySegments, LiesInMemory, AreApart, Fit}
use Rattle.place80.specs.PlaceFault.{is_in_placed, absolute_place}
use Rattle.rom80_find.specs.Chunks.{is_code}

-- what holds of the segments of a program that are placed
pub record PlacingLaws : Type 0 where
  pub layout : LayoutIsLaidOut
  pub placed : SegmentsArePlaced
  pub places : PlacesAreBySegments

-- what holds of all segments holds of the one of an id that is there, and that one has the id
found_placed : (P : Placed → Type 0) (id : ℕ) (segments : List Placed) → list_any (λ p. p.id == id) segments ≡ true
    → All P segments →
    P (placed_in segments id) × ((placed_in segments id).id ≡ id)
found_placed P id [] there all = absurd cc
found_placed P id (p ∷ ps) there all =
    (elim (p.id == id) as (λ b. (p.id == id) ≡ b → (b || list_any (λ q. q.id == id) ps) ≡ true →
    P (unwrap_or (cond b (Some p) (find (λ q. q.id == id) ps)) (nowhere id))
    × ((unwrap_or (cond b (Some p) (find (λ q. q.id == id) ps)) (nowhere id)).id ≡ id)) [
      | true ↦ λ e _. (All-head P p ps all, eqb-true p.id id e)
      | false ↦ λ _ later. found_placed P id ps later (All-tail P p ps all)
    ]) refl there

-- ---- no address is in two segments

module _ (a : ℕ) where
  abbrev pub IsIn : Placed → Type 0
  IsIn p = is_in_placed p a ≡ true

  first_apart : (p : Placed) (ps : List Placed) → AllPairs AreApart (p ∷ ps) → All (AreApart p) ps
  first_apart p ps all = λ k d inside. all 0 (suc k) d (omega arith) (omega arith)

  rest_apart : (p : Placed) (ps : List Placed) → AllPairs AreApart (p ∷ ps) → AllPairs AreApart ps
  rest_apart p ps all = λ i j d before inside. all (suc i) (suc j) d (omega arith) (omega arith)

  pub in_one_alone : (ps : List Placed) (i j : ℕ) → AllPairs AreApart ps → (i == j) ≡ false
      → list_any (λ p. p.id == i) ps ≡ true → list_any (λ p. p.id == j) ps ≡ true
      → IsIn (placed_in ps i) → IsIn (placed_in ps j) → true ≡ false
  in_one_alone [] i j all other has_i has_j in_i in_j = sym has_i
  in_one_alone (p ∷ ps) i j all other has_i has_j in_i in_j =
      (elim (p.id == i) as (λ b. (p.id == i) ≡ b → (b || list_any (λ q. q.id == i) ps) ≡ true
      → IsIn (unwrap_or (cond b (Some p) (find (λ q. q.id == i) ps)) (nowhere i)) → true ≡ false) [
        | true ↦ λ is_i _ at_i.
            (elim (p.id == j) as (λ b. (p.id == j) ≡ b → (b || list_any (λ q. q.id == j) ps) ≡ true
            → IsIn (unwrap_or (cond b (Some p) (find (λ q. q.id == j) ps)) (nowhere j)) → true ≡ false) [
              | true ↦ λ is_j _ _. sym (eq-eqb i j (sym (eqb-true p.id i is_i) ∙ eqb-true p.id j is_j)) ∙ other
              | false ↦ λ _ later at_j. sym at_j ∙ (found_placed (AreApart p) j ps later (first_apart p ps all)).0 a at_i
            ]) refl has_j in_j
        | false ↦ λ _ later_i at_i.
            (elim (p.id == j) as (λ b. (p.id == j) ≡ b → (b || list_any (λ q. q.id == j) ps) ≡ true
            → IsIn (unwrap_or (cond b (Some p) (find (λ q. q.id == j) ps)) (nowhere j)) → true ≡ false) [
              | true ↦ λ _ _ at_j. sym at_i ∙ (found_placed (AreApart p) i ps later_i (first_apart p ps all)).0 a at_j
              | false ↦ λ _ later_j at_j. in_one_alone ps i j (rest_apart p ps all) other later_i later_j at_i at_j
            ]) refl has_j in_j
      ]) refl has_i in_i

-- ---- a chunk covers only addresses of its content's segment

covered : (place n a : ℕ) → place + n ≤ 65536 → a < 65536 → (a + 65536 - place % 65536) % 65536 < n → (place ≤ a) × (a < place + n)
covered place n a ends below near = (omega arith, omega arith)

word_again : (n : ℕ) → n % 65536 % 65536 ≡ n % 65536
word_again n = omega arith

-- what is asked of a content of a module that is located
pub record Held (m : ModuleValue) (c : ContentValue) : Type 0 where
  pub has : has_segment m.commons c.segment ≡ true
  pub not_stack : (c.segment == 3) ≡ false
  pub absolute : (c.segment == 0) ≡ true → c.offset + length c.bytes ≤ 65536
  pub own : (c.segment == 0) ≡ false → c.offset + length c.bytes ≤ (own_segment m c.segment).length

module _ (laws : PlacingLaws) (options : Options) (m : ModuleValue) (new : IsTrue (each_after is_new_common [] m.commons))
    (ids : (id : ℕ) → has_common_id m.commons id ≡ true → (6 ≤ id) × (id ≤ 254)) (a : ℕ) (fit : Fit m (layout_of options m)) where
  abbrev segments : List Placed
  segments = layout_of options m

  abbrev make : ContentValue → ByteChunk
  make c = chunk_of (program_bases options m) (m ∷ []) (0, m) c

  abbrev length_of_id : ℕ → ℕ
  length_of_id id = unwrap_or (given_length options id) (own_segment m id).length

  abbrev OfMemory : ContentValue → Type 0
  OfMemory c = c.segment ≡ 4 → c.offset + length c.bytes ≤ (placed_in segments 4).length

  abbrev OfAbsolute : ContentValue → Type 0
  OfAbsolute c = c.segment ≡ 0 → All (AreApart (absolute_place c)) segments

  long : (c : ContentValue) → length (make c).bytes ≡ length c.bytes
  long c = length-map-range_with_len (byte_with (map (patch_of (program_bases options m) (m ∷ []) (0, m) c) c.fixups) c.bytes) 0 (length c.bytes)

  near : (c : ContentValue) → chunk_covers a (make c) ≡ true → (a < 65536) × (distance (make c).place a < length c.bytes)
  near c covers =
      let parts = and_parts (nat_lt a 65536) (nat_lt (distance (make c).place a) (length (make c).bytes)) covers in
      (ltb-true a 65536 parts.0, subst (λ (n : ℕ). distance (make c).place a < n) (long c) (ltb-true (distance (make c).place a) (length (make c).bytes) parts.1))

  pub there : (c : ContentValue) → Held m c → (c.segment == 0) ≡ false → list_any (λ p. p.id == c.segment) segments ≡ true
  there c held not_absolute = laws.placed options m c.segment ids held.has not_absolute

  place_is : (c : ContentValue) → Held m c → (make c).place
      ≡ cond (c.segment == 0) c.offset (cond (c.segment == 3) ((top_in segments + c.offset) % 65536) ((base_in segments c.segment + c.offset) % 65536))
  place_is c held = laws.places segments m c.segment c.offset new held.has

  at_offset : (c : ContentValue) → Held m c → (c.segment == 0) ≡ true → (make c).place ≡ c.offset
  at_offset c held is = place_is c held
      ∙ ap (λ (b : Bool). cond b c.offset (cond (c.segment == 3) ((top_in segments + c.offset) % 65536) ((base_in segments c.segment + c.offset) % 65536))) is

  at_base : (c : ContentValue) → Held m c → (c.segment == 0) ≡ false → (make c).place ≡ (base_in segments c.segment + c.offset) % 65536
  at_base c held is = place_is c held
      ∙ ap (λ (b : Bool). cond b c.offset (cond (c.segment == 3) ((top_in segments + c.offset) % 65536) ((base_in segments c.segment + c.offset) % 65536))) is
      ∙ ap (λ (b : Bool). cond b ((top_in segments + c.offset) % 65536) ((base_in segments c.segment + c.offset) % 65536)) held.not_stack

  pub in_absolute : (c : ContentValue) → Held m c → (c.segment == 0) ≡ true → chunk_covers a (make c) ≡ true → IsIn a (absolute_place c)
  in_absolute c held is covers =
      let n = near c covers in
      let found = covered c.offset (length c.bytes) a (held.absolute is) n.0
      (subst (λ (place : ℕ). (a + 65536 - place % 65536) % 65536 < length c.bytes) (at_offset c held is) n.1) in
      and_from (nat_le c.offset a) (nat_lt a (c.offset + length c.bytes)) (le-leb c.offset a found.0) (lt-ltb a (c.offset + length c.bytes) found.1)

  within : (c : ContentValue) → Held m c → OfMemory c → (c.segment == 0) ≡ false
      → c.offset + length c.bytes ≤ (placed_in segments c.segment).length
  within c held memory is =
      elim (cases_Bool (c.segment == 4)) [
        | inl e ↦
            let is_four : c.segment ≡ 4 = eqb-true c.segment 4 e in
            subst (λ (id : ℕ). c.offset + length c.bytes ≤ (placed_in segments id).length) (sym is_four) (memory is_four)
        | inr e ↦
            let found = found_placed (HasItsLength options m) c.segment segments (there c held is)
            (All-from_recursion (HasItsLength options m) segments (laws.layout options m).lengths) in
            let own : length_of_id c.segment ≡ (own_segment m c.segment).length =
            ap (λ (b : Bool). unwrap_or (cond b options.stack_size (cond (c.segment == 4) options.memory_size None)) (own_segment m c.segment).length) held.not_stack
            ∙ ap (λ (b : Bool). unwrap_or (cond b options.memory_size None) (own_segment m c.segment).length) e in
            subst (λ (n : ℕ). c.offset + length c.bytes ≤ n) (sym (found.0 ∙ ap length_of_id found.1 ∙ own)) (held.own is)
      ]

  pub in_segment : (c : ContentValue) → Held m c → OfMemory c → (c.segment == 0) ≡ false → chunk_covers a (make c) ≡ true
      → IsIn a (placed_in segments c.segment)
  in_segment c held memory is covers =
      let p = placed_in segments c.segment in
      let ends : p.base + p.length ≤ 65536 = (found_placed (LiesInMemory m.contents) c.segment segments (there c held is) fit.in_memory).0.«end» in
      let inside : c.offset + length c.bytes ≤ p.length = within c held memory is in
      let n = near c covers in
      let found = covered (p.base + c.offset) (length c.bytes) a (omega (arith, ends, inside)) n.0
      (subst (λ (place : ℕ). (a + 65536 - place) % 65536 < length c.bytes) (word_again (p.base + c.offset))
      (subst (λ (place : ℕ). (a + 65536 - place % 65536) % 65536 < length c.bytes) (at_base c held is) n.1)) in
      let above : p.base + c.offset ≤ a = found.0 in
      let below : a < p.base + c.offset + length c.bytes = found.1 in
      and_from (nat_le p.base a) (nat_lt a (p.base + p.length)) (le-leb p.base a (omega (arith, above)))
      (lt-ltb a (p.base + p.length) (omega (arith, below, inside)))

  -- a content in CODE covers an address of the segment CODE
  pub code_is_in : (c : ContentValue) → Held m c → OfMemory c → is_code c ≡ true → chunk_covers a (make c) ≡ true → IsIn a (placed_in segments 1)
  code_is_in c held memory code covers =
      let is : c.segment ≡ 1 = eqb-true c.segment 1 code in
      subst (λ (id : ℕ). IsIn a (placed_in segments id)) is (in_segment c held memory (ap (λ (id : ℕ). id == 0) is) covers)

  code_there : list_any (λ p. p.id == 1) segments ≡ true
  code_there = laws.placed options m 1 ids refl refl

  -- a content that covers an address of the segment CODE is in CODE
  pub is_in_code_alone : (c : ContentValue) → Held m c → OfMemory c → OfAbsolute c → IsIn a (placed_in segments 1)
      → chunk_covers a (make c) ≡ true → is_code c ≡ true
  is_in_code_alone c held memory absolute here covers = elim (cases_Bool (c.segment == 1)) [
    | inl e ↦ e
    | inr e ↦ elim (cases_Bool (c.segment == 0)) [
      | inl z ↦
          absurd (true≢false (sym here
          ∙ (found_placed (AreApart (absolute_place c)) 1 segments code_there (absolute (eqb-true c.segment 0 z))).0 a (in_absolute c held z covers)))
      | inr z ↦
          absurd (true≢false (in_one_alone a segments c.segment 1 fit.apart e (there c held z) code_there
          (in_segment c held memory z covers) here))
    ]
  ]

  memory_there : list_any (λ p. p.id == 4) segments ≡ true
  memory_there = laws.placed options m 4 ids refl refl

  memory_of_all : AllByRecursion OfMemory m.contents
  memory_of_all =
      let found = found_placed (LiesInMemory m.contents) 4 segments memory_there fit.in_memory in
      recursion_from_All OfMemory m.contents (found.0.content found.1)

  all_code : (cs : List ContentValue) → AllByRecursion (Held m) cs → AllByRecursion OfMemory cs
      → AllByRecursion (λ c. is_code c ≡ true → chunk_covers a (make c) ≡ true → IsIn a (placed_in segments 1)) cs
  all_code [] held memory = tt
  all_code (c ∷ cs) held memory = (code_is_in c held.0 memory.0, all_code cs held.1 memory.1)

  all_alone : (cs : List ContentValue) → AllByRecursion (Held m) cs → AllByRecursion OfMemory cs → AllByRecursion OfAbsolute cs
      → IsIn a (placed_in segments 1) → AllByRecursion (λ c. chunk_covers a (make c) ≡ true → is_code c ≡ true) cs
  all_alone [] held memory absolute here = tt
  all_alone (c ∷ cs) held memory absolute here =
      (is_in_code_alone c held.0 memory.0 absolute.0 here, all_alone cs held.1 memory.1 absolute.1 here)

  pub code_contents : AllByRecursion (Held m) m.contents
      → AllByRecursion (λ c. is_code c ≡ true → chunk_covers a (make c) ≡ true → IsIn a (placed_in segments 1)) m.contents
  code_contents held = all_code m.contents held memory_of_all

  pub alone_contents : AllByRecursion (Held m) m.contents → IsIn a (placed_in segments 1)
      → AllByRecursion (λ c. chunk_covers a (make c) ≡ true → is_code c ≡ true) m.contents
  alone_contents held here =
      all_alone m.contents held memory_of_all (recursion_from_All OfAbsolute m.contents fit.absolute_apart) here
