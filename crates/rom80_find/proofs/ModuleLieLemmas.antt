-- A module lies in a dump exactly if its pattern does.
use Rattle.std.specs.Prelude.{◌≡◌, ◌↔◌, ℕ, zero, suc, ◌+◌, ◌-◌, ◌%◌, ◌<◌, ◌≤◌, nat_lt, nat_le, cond, Bool, true, false, Option, Some, None, option_map, List, [], ◌∷◌, length, find, filter, filter_map}
use Rattle.std.specs.List.{AllByRecursion, cons_option, last_or, range_with_len}
use Rattle.std.specs.Option.{option_map_or}
use Rattle.std.proofs.Common.{refl, sym, ◌∙◌, ap, subst, arith, inl, inr}
use Rattle.std.proofs.lemmas.Bool.{and_parts, eqb-true, leb-true, ltb-true, cases_lt}
use Rattle.omf_core.specs.SegmentId.{code_id}
use Rattle.omf_body.specs.declared.field.Field.{Field}
use Rattle.omf_body.specs.declared.field.Field.TheVariants as field
use Rattle.omf_model.specs.declared.fixup.Fixup.{Fixup}
use Rattle.omf_model.specs.Contents.{ContentValue}
use Rattle.omf_model.specs.Modules.{ModuleValue}
use Rattle.omf_model.specs.Rules.{end_of}
use Rattle.omf_model.specs.Place.{Bases}
use Rattle.omf_model.specs.ImageByte.{ByteChunk, chunk_of, chunk_covers, distance, last_over}
use Rattle.omf_model.specs.SoundModules.{RulesOf, LiesIn, HasItsFixups, CommonsByName, PartsOfOneStartAtZero}
use Rattle.rom80_find.specs.Dump.{DumpValue, dump_byte}
use Rattle.rom80_pattern.specs.declared.code_byte.CodeByte.{CodeByte}
use Rattle.rom80_pattern.specs.declared.resolving.Resolved.{Resolved}
use Rattle.rom80_pattern.specs.CodeBytes.{byte_by}
use Rattle.rom80_pattern.specs.Modules.{resolved, has_byte, plain_byte, field_byte, fixup_byte, byte_by_fixups, byte_in, covers, covers_code, code_byte_at, code_length, code_bytes}
use Rattle.rom80_find.specs.Places.{LiesWith, LiesAt}
use Rattle.rom80_find.specs.Chunks.{is_code, code_chunks, is_covered, chunk_byte}
use Rattle.rom80_find.specs.Lies.{LiesByBases, HasModule}
use Rattle.rom80_find.proofs.BaseLemmas.{Agrees, values_of, value_segment, bases_agree, bases_by, values_agree}
use Rattle.rom80_find.proofs.ChunkLemmas.{none_some, last_map, last_passes, last_is, any_last, mapped_from, offset_at, there_again, back_there, last_over_is, content_byte}

-- ---- a list that a function gives of a range

same_some : {A : Type 0} (x y : A) → Some x ≡ Some y → x ≡ y
same_some {A} x y s = ap (λ (o : Option A). from o) s
  where
    from : Option A → A
    from None = x
    from (Some z) = z

one_of_all : {A : Type 0} (P : A → Type 0) (f : ℕ → Option A) (start n : ℕ) → AllByRecursion P (filter_map f (range_with_len start n))
    → (o : ℕ) → start ≤ o → o < start + n → (b : A) → f o ≡ Some b → P b
one_of_all {A} P f start zero all o le lt b e = elim (none start o le lt) [ ]
  where
    none : (start o : ℕ) → start ≤ o → o < start + 0 → ⊥
    none start o le lt = omega arith
one_of_all {A} P f start (suc n) all o le lt b e = elim (cases_lt start o) [
  | inl after ↦ one_of_all P f (start + 1) n (rest (f start) all) o (omega arith) (omega arith) b e
  | inr here ↦
      let same : start ≡ o = omega arith in
      head (f start) (ap f same ∙ e) all
]
  where
    rest : (x : Option A) → AllByRecursion P (cons_option x (filter_map f (range_with_len (start + 1) n))) → AllByRecursion P (filter_map f (range_with_len (start + 1) n))
    rest None all = all
    rest (Some x) all = all.1

    head : (x : Option A) → x ≡ Some b → AllByRecursion P (cons_option x (filter_map f (range_with_len (start + 1) n))) → P b
    head None e all = elim (none_some b e) [ ]
    head (Some x) e all = subst P (same_some x b e) all.0

pub all_of_each : {A : Type 0} (P : A → Type 0) (f : ℕ → Option A) (start n : ℕ) → ((o : ℕ) → o < start + n → (b : A) → f o ≡ Some b → P b)
    → AllByRecursion P (filter_map f (range_with_len start n))
all_of_each P f start zero each = tt
all_of_each {A} P f start (suc n) each = go (all_of_each P f (start + 1) n (λ o lt b e. each o (omega arith) b e)) (f start) (λ b e. each start (omega arith) b e)
  where
    go : AllByRecursion P (filter_map f (range_with_len (start + 1) n)) → (x : Option A) → ((b : A) → x ≡ Some b → P b) → AllByRecursion P (cons_option x (filter_map f (range_with_len (start + 1) n)))
    go rest None here = rest
    go rest (Some x) here = (here x refl, rest)

-- it has an element exactly if the function gives one
some_of_each : {A : Type 0} (f : ℕ → Option A) (start n : ℕ) → 0 < length (filter_map f (range_with_len start n))
    → (o : ℕ) × (o < start + n) × (b : A) × (f o ≡ Some b)
some_of_each f start zero lt = elim lt [ ]
some_of_each {A} f start (suc n) lt = go (some_of_each f (start + 1) n) (f start) refl lt
  where
    go : (0 < length (filter_map f (range_with_len (start + 1) n)) → (o : ℕ) × (o < start + 1 + n) × (b : A) × (f o ≡ Some b))
        → (x : Option A) → f start ≡ x → 0 < length (cons_option x (filter_map f (range_with_len (start + 1) n))) → (o : ℕ) × (o < start + suc n) × (b : A) × (f o ≡ Some b)
    go rest None e lt = let r = rest lt in (r.0, omega (arith, r.1), r.2, r.3)
    go rest (Some x) e lt = (start, omega arith, x, e)

each_gives_some : {A : Type 0} (f : ℕ → Option A) (start n o : ℕ) (b : A) → start ≤ o → o < start + n → f o ≡ Some b
    → 0 < length (filter_map f (range_with_len start n))
each_gives_some f start zero o b le lt e = elim (none start o le lt) [ ]
  where
    none : (start o : ℕ) → start ≤ o → o < start + 0 → ⊥
    none start o le lt = omega arith
each_gives_some {A} f start (suc n) o b le lt e = elim (cases_lt start o) [
  | inl after ↦ more (f start) (each_gives_some f (start + 1) n o b (omega arith) (omega arith) e)
  | inr here ↦
      let same : start ≡ o = omega arith in
      first (f start) (ap f same ∙ e)
]
  where
    more : (x : Option A) → 0 < length (filter_map f (range_with_len (start + 1) n)) → 0 < length (cons_option x (filter_map f (range_with_len (start + 1) n)))
    more None lt = lt
    more (Some x) lt = omega arith

    first : (x : Option A) → x ≡ Some b → 0 < length (cons_option x (filter_map f (range_with_len (start + 1) n)))
    first None e = elim (none_some b e) [ ]
    first (Some x) e = omega arith

-- a byte of a content stands at its offset
field_offset : (f : Field) (r : Resolved) (c : ContentValue) (at i : ℕ) → (field_byte f r c at i).offset ≡ c.offset + i
field_offset field.Low r c at i = refl
field_offset field.High r c at i = refl
field_offset field.Both r c at i = refl

byte_offset : (m : ModuleValue) (c : ContentValue) (i : ℕ) (fs : List Fixup) → (byte_by_fixups m c i fs).offset ≡ c.offset + i
byte_offset m c i [] = refl
byte_offset m c i (f ∷ fs) = go (byte_offset m c i fs) (has_byte c i f)
  where
    go : (byte_by_fixups m c i fs).offset ≡ c.offset + i → (t : Bool)
        → (option_map_or (fixup_byte m c i) (cond t (Some f) (find (has_byte c i) fs)) (plain_byte c i)).offset ≡ c.offset + i
    go rest true = field_offset f.field (resolved m f.target) c (f.offset - c.offset) i
    go rest false = rest

byte_stands : (m : ModuleValue) (o : ℕ) (c : ContentValue) → covers_code o c ≡ true → (byte_in m o c).offset ≡ o
byte_stands m o c over =
    let le : c.offset ≤ o = leb-true c.offset o (and_parts (nat_le c.offset o) (nat_lt (o - c.offset) (length c.bytes)) (and_parts (is_code c) (covers o c) over).1).0 in
    byte_offset m c (o - c.offset) c.fixups ∙ omega arith

-- ---- the module at an address

both : {A : Type 0} (P Q : A → Type 0) (xs : List A) → AllByRecursion P xs → AllByRecursion Q xs → AllByRecursion (λ x. P x × Q x) xs
both P Q [] p q = tt
both P Q (x ∷ xs) p q = ((p.0, q.0), both P Q xs p.1 q.1)

all_same : (ks : List ByteChunk) → AllByRecursion (λ k. k ≡ k) ks
all_same [] = tt
all_same (k ∷ ks) = (refl, all_same ks)

-- the last content in CODE over an offset
pub last_sound : (m : ModuleValue) → RulesOf m → (o : ℕ) (c : ContentValue) → last_or None (filter (covers_code o) m.contents) ≡ Some c
    → (covers_code o c ≡ true) × (LiesIn m c × HasItsFixups m c)
last_sound m rules o c e = last_passes (covers_code o) (λ c. LiesIn m c × HasItsFixups m c) None m.contents c
    (both (LiesIn m) (HasItsFixups m) m.contents rules.contents rules.fixups) (λ z s. elim (none_some z s) [ ]) e

-- lies before the end of CODE
in_code : (m : ModuleValue) (o : ℕ) (c : ContentValue) → LiesIn m c → covers_code o c ≡ true → o < code_length m
in_code m o c lies over =
    let parts = and_parts (is_code c) (covers o c) over in
    let bounds = and_parts (nat_le c.offset o) (nat_lt (o - c.offset) (length c.bytes)) parts.1 in
    let le : c.offset ≤ o = leb-true c.offset o bounds.0 in
    let lt : o - c.offset < length c.bytes = ltb-true (o - c.offset) (length c.bytes) bounds.1 in
    let k : end_of m.segments c.segment ≡ code_length m = ap (λ (id : ℕ). end_of m.segments id) (eqb-true c.segment code_id parts.0) in
    omega (arith, lies.within, k, le, lt)

-- a chunk over an address covers one of memory
covers_memory : (chunks : List ByteChunk) (a : ℕ) (k : ByteChunk) → last_over chunks a ≡ Some k → a < 65536
covers_memory chunks a k e =
    let passes = last_passes (chunk_covers a) (λ k. k ≡ k) None chunks k (all_same chunks) (λ z s. elim (none_some z s) [ ]) e in
    ltb-true a 65536 (and_parts (nat_lt a 65536) (nat_lt (distance k.place a) (length k.bytes)) passes.0).0

-- the dump has a byte of the pattern, at the address
abbrev Has : (dump : DumpValue) (address : ℕ) (value : ℕ → ℕ) → CodeByte → Type 0
Has dump address value b = dump_byte dump ((address + b.offset) % 65536) ≡ Some (byte_by value b)

-- and of the chunks
abbrev HasChunks : (dump : DumpValue) → List ByteChunk → Type 0
HasChunks dump chunks = (a : ℕ) (k : ByteChunk) → last_over chunks a ≡ Some k → dump_byte dump a ≡ Some (chunk_byte k a)

module _ (dump : DumpValue) (m : ModuleValue) (address : ℕ) (rules : RulesOf m) (at_zero : PartsOfOneStartAtZero)
    (short : code_length m < 65536) (la : address < 65536) (bases : Bases) (here : bases.code ≡ address) where
  -- of an address that the chunks cover, the content
  content_over : (a : ℕ) (k : ByteChunk) → last_over (code_chunks bases m) a ≡ Some k
      → (c : ContentValue) × (last_or None (filter (covers_code (offset_at address a)) m.contents) ≡ Some c) × (chunk_of bases (m ∷ []) (0, m) c ≡ k)
  content_over a k e = mapped_from (chunk_of bases (m ∷ []) (0, m)) (last_or None (filter (covers_code (offset_at address a)) m.contents)) k
      (sym (last_over_is m bases address la here at_zero short rules a (covers_memory (code_chunks bases m) a k e)) ∙ e)

  -- of an offset that the pattern has a byte at, the content
  content_at : (o : ℕ) (b : CodeByte) → code_byte_at m o ≡ Some b
      → (c : ContentValue) × (last_or None (filter (covers_code o) m.contents) ≡ Some c) × (byte_in m o c ≡ b)
  content_at o b e = mapped_from (byte_in m o) (last_or None (filter (covers_code o) m.contents)) b
      (sym (last_map (byte_in m o) None (filter (covers_code o) m.contents)) ∙ e)

  -- and the chunk
  chunk_there : (o : ℕ) (c : ContentValue) → o < 65536 → last_or None (filter (covers_code o) m.contents) ≡ Some c
      → last_over (code_chunks bases m) ((address + o) % 65536) ≡ Some (chunk_of bases (m ∷ []) (0, m) c)
  chunk_there o c lt e =
      last_over_is m bases address la here at_zero short rules ((address + o) % 65536) (omega arith)
      ∙ ap (λ (n : ℕ). option_map (chunk_of bases (m ∷ []) (0, m)) (last_or None (filter (covers_code n) m.contents))) (there_again address o la lt)
      ∙ ap (λ (x : Option ContentValue). option_map (chunk_of bases (m ∷ []) (0, m)) x) e

  offset_small : (o : ℕ) (c : ContentValue) → last_or None (filter (covers_code o) m.contents) ≡ Some c → o < 65536
  offset_small o c e =
      let sound = last_sound m rules o c e in
      let below = in_code m o c sound.1.0 sound.0 in
      omega (arith, below, short)

  module _ (value : ℕ → ℕ) (agrees : Agrees m bases value) where
    -- if the dump has the pattern's bytes, it has those of the chunks
    pub chunks_lie : AllByRecursion (Has dump address value) (code_bytes m) → HasChunks dump (code_chunks bases m)
    chunks_lie bytes a k e =
        let lt = covers_memory (code_chunks bases m) a k e in
        let o = offset_at address a in
        let found = content_over a k e in
        let c = found.0 in
        let sound = last_sound m rules o c found.1 in
        let below = in_code m o c sound.1.0 sound.0 in
        let byte-there : code_byte_at m o ≡ Some (byte_in m o c) =
        last_map (byte_in m o) None (filter (covers_code o) m.contents) ∙ ap (λ (x : Option ContentValue). option_map (byte_in m o) x) found.1 in
        let has : Has dump address value (byte_in m o c) =
        one_of_all (Has dump address value) (code_byte_at m) 0 (code_length m) bytes o (omega arith) (omega (arith, below)) (byte_in m o c) byte-there in
        let stands : (address + (byte_in m o c).offset) % 65536 ≡ a =
        ap (λ (n : ℕ). (address + n) % 65536) (byte_stands m o c sound.0) ∙ back_there address a la lt in
        ap (λ (x : ℕ). dump_byte dump x) (sym stands) ∙ has
        ∙ ap (λ (x : ℕ). Some x) (sym (content_byte m bases address la here at_zero short value rules agrees a lt c sound.1.0 sound.1.1 sound.0) ∙ ap (λ (k : ByteChunk). chunk_byte k a) found.2)

    -- and the other way
    pub pattern_lies : HasChunks dump (code_chunks bases m) → AllByRecursion (Has dump address value) (code_bytes m)
    pattern_lies bytes = all_of_each (Has dump address value) (code_byte_at m) 0 (code_length m) (λ o below b e.
        let found = content_at o b e in
        let c = found.0 in
        let lt = offset_small o c found.1 in
        let a-lt : (address + o) % 65536 < 65536 = omega arith in
        let again = there_again address o la lt in
        let sound = last_sound m rules o c found.1 in
        let over : covers_code (offset_at address ((address + o) % 65536)) c ≡ true = ap (λ (n : ℕ). covers_code n c) again ∙ sound.0 in
        let had = bytes ((address + o) % 65536) (chunk_of bases (m ∷ []) (0, m) c) (chunk_there o c lt found.1) in
        ap (λ (x : CodeByte). dump_byte dump ((address + x.offset) % 65536)) (sym found.2)
        ∙ ap (λ (n : ℕ). dump_byte dump ((address + n) % 65536)) (byte_stands m o c sound.0)
        ∙ had
        ∙ ap (λ (x : ℕ). Some x) (content_byte m bases address la here at_zero short value rules agrees ((address + o) % 65536) a-lt c sound.1.0 sound.1.1 over
        ∙ ap (λ (n : ℕ). byte_by value (byte_in m n c)) again ∙ ap (λ (x : CodeByte). byte_by value x) found.2))

  -- the pattern has a byte exactly if the chunks cover an address
  pub some_covered : 0 < length (code_bytes m) → (a : ℕ) × (is_covered (code_chunks bases m) a ≡ true)
  some_covered lt =
      let r = some_of_each (code_byte_at m) 0 (code_length m) lt in
      let found = content_at r.0 r.2 r.3 in (
        (address + r.0) % 65536,
        any_last (chunk_covers ((address + r.0) % 65536)) (code_chunks bases m) (chunk_of bases (m ∷ []) (0, m) found.0)
            (chunk_there r.0 found.0 (offset_small r.0 found.0 found.1) found.1),
      )

  pub some_byte : (a : ℕ) → is_covered (code_chunks bases m) a ≡ true → 0 < length (code_bytes m)
  some_byte a e =
      let last = last_is (chunk_covers a) (code_chunks bases m) e in
      let o = offset_at address a in
      let found = content_over a last.0 last.1 in
      let c = found.0 in
      let sound = last_sound m rules o c found.1 in
      let below = in_code m o c sound.1.0 sound.0 in
      each_gives_some (code_byte_at m) 0 (code_length m) o (byte_in m o c) (omega arith) (omega (arith, below))
      (last_map (byte_in m o) None (filter (covers_code o) m.contents) ∙ ap (λ (x : Option ContentValue). option_map (byte_in m o) x) found.1)

-- ---- the law

module _ (dump : DumpValue) (m : ModuleValue) (address : ℕ) (rules : RulesOf m) (by_name : CommonsByName) (at_zero : PartsOfOneStartAtZero)
    (short : code_length m < 65536) (la : address < 65536) where
  -- from values to bases
  pub by_bases : (value : ℕ → ℕ) → 0 < length (code_bytes m) → LiesWith dump (code_bytes m) address value → LiesByBases dump m address (bases_by m value)
  by_bases value some lies = record {
    here = lies.here;
    bytes = chunks_lie dump m address rules at_zero short la (bases_by m value) lies.here value (values_agree m value by_name at_zero rules lies.absolute) lies.bytes;
    some = some_covered dump m address rules at_zero short la (bases_by m value) lies.here some;
  }

  -- and back
  pub with_values : (bases : Bases) → LiesByBases dump m address bases → LiesWith dump (code_bytes m) address (values_of m bases)
  with_values bases lies = record {
    absolute = refl;
    here = value_segment m bases 1 (omega arith) ∙ ap (λ (n : ℕ). (bases.code + n + 0) % 65536) (at_zero m 1) ∙ ap (λ (n : ℕ). (n + 0 + 0) % 65536) lies.here ∙ small;
    bytes = pattern_lies dump m address rules at_zero short la bases lies.here (values_of m bases) (bases_agree m bases rules) lies.bytes;
  }
    where
      small : (address + 0 + 0) % 65536 ≡ address
      small = omega arith

  pub lies_as_module : (0 < length (code_bytes m)) × LiesAt dump (code_bytes m) address ↔ HasModule dump m address
  lies_as_module = (
    (λ h. record { bases = bases_by m h.1.value; lies = by_bases h.1.value h.0 h.1.lies }),
    (λ h. (
      some_byte dump m address rules at_zero short la h.bases h.lies.here h.lies.some.0 h.lies.some.1,
      record { value = values_of m h.bases; lies = with_values h.bases h.lies },
    )),
  )
