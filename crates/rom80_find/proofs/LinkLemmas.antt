-- The last content of a link over an address is the last in CODE of its module.
use Rattle.std.specs.Prelude.{◌≡◌, ℕ, ◌+◌, ◌-◌, ◌%◌, cond, Bool, true, false, Option, Some, None, List, [], ◌∷◌, ◌++◌, length, map, filter, slice_index, IsTrue}
use Rattle.std.specs.List.{AllByRecursion, last_or, flat_map, enumerate_from}
use Rattle.std.specs.Option.{option_map_or}
use Rattle.std.proofs.Common.{refl, sym, ◌∙◌, ap, arith}
use Rattle.std.proofs.lemmas.Bool.{eqb-true, ltb-true, true≢false}
use Rattle.omf_core.specs.SegmentId.{code_id}
use Rattle.omf_model.specs.declared.fixup.Fixup.{Fixup}
use Rattle.omf_model.specs.declared.fixup.Target.{Target}
use Rattle.omf_model.specs.declared.fixup.Target.TheVariants as target
use Rattle.omf_model.specs.Contents.{ContentValue}
use Rattle.omf_model.specs.Modules.{ModuleValue}
use Rattle.omf_model.specs.Rules.{has_target}
use Rattle.omf_model.specs.declared.patching.Patch.{Patch}
use Rattle.omf_model.specs.Place.{Bases, part_start, place_in}
use Rattle.omf_model.specs.ImageByte.{ByteChunk, patch_with, target_word, chunk_of, chunk_covers, chunks_of, image_byte, distance}
use Rattle.omf_model.specs.Patches.{with_patches}
use Rattle.omf_model.specs.SoundModules.{RulesOf, HasItsFixups, SoundModulesKeepRules}
use Rattle.rom80_find.specs.Dump.{DumpValue, dump_byte}
use Rattle.rom80_find.specs.Chunks.{is_code, is_covered, chunk_byte}
use Rattle.rom80_find.specs.LinkLaws.{GoWith, LiesInLink, OnlyCodeCovers}
use Rattle.rom80_find.proofs.ChunkLemmas.{none_some, last_is}

-- ---- the last of lists end to end

last_append : {A : Type 0} (o : Option A) (xs ys : List A) → last_or o (xs ++ ys) ≡ last_or (last_or o xs) ys
last_append o [] ys = refl
last_append o (x ∷ xs) ys = last_append (Some x) xs ys

filter_append : {A : Type 0} (p : A → Bool) (xs ys : List A) → filter p (xs ++ ys) ≡ filter p xs ++ filter p ys
filter_append p [] ys = refl
filter_append {A} p (x ∷ xs) ys = go (filter_append p xs ys) (p x)
  where
    go : filter p (xs ++ ys) ≡ filter p xs ++ filter p ys → (t : Bool)
        → cond t (x ∷ filter p (xs ++ ys)) (filter p (xs ++ ys)) ≡ cond t (x ∷ filter p xs) (filter p xs) ++ filter p ys
    go rest true = ap (λ (l : List A). x ∷ l) rest
    go rest false = rest

-- what holds of the last, or else of what was before
from_last : {A : Type 0} (Q : A → Type 0) (o : Option A) (xs : List A) → ((z : A) → o ≡ Some z → Q z) → ((z : A) → last_or None xs ≡ Some z → Q z)
    → (z : A) → last_or o xs ≡ Some z → Q z
from_last Q o [] before here z e = before z e
from_last Q o (x ∷ xs) before here z e = here z e

last_of_each : {A B : Type 0} (Q : B → Type 0) (p : B → Bool) (f : A → List B) (o : Option B) (es : List A)
    → ((z : B) → o ≡ Some z → Q z) → AllByRecursion (λ e. (z : B) → last_or None (filter p (f e)) ≡ Some z → Q z) es
    → (z : B) → last_or o (filter p (flat_map f es)) ≡ Some z → Q z
last_of_each Q p f o [] before each z k = before z k
last_of_each {A} {B} Q p f o (e ∷ es) before each z k =
    last_of_each Q p f (last_or o (filter p (f e))) es (from_last Q o (filter p (f e)) before each.0) each.1 z
    (sym (last_append o (filter p (f e)) (filter p (flat_map f es))) ∙ ap (λ (l : List B). last_or o l) (sym (filter_append p (f e) (flat_map f es))) ∙ k)

-- ---- a module's chunks in a link and alone

module _ (bases : Bases) (modules : List ModuleValue) (number : ℕ) (m : ModuleValue) (own : Bases) (rules : RulesOf m) (go_with : GoWith bases modules number m own) where
  word_same : (t : Target) → IsTrue (has_target m.commons (length m.externals) t) → target_word own (m ∷ []) (0, m) t ≡ target_word bases modules (number, m) t
  word_same (target.Segment id) has = go_with.segments id has
  word_same (target.External index) has = go_with.externals index (ltb-true index (length m.externals) has)

  patches_same : (first : ℕ) (fs : List Fixup) → AllByRecursion (λ f. IsTrue (has_target m.commons (length m.externals) f.target)) fs
      → map (patch_with (target_word own (m ∷ []) (0, m)) first) fs ≡ map (patch_with (target_word bases modules (number, m)) first) fs
  patches_same first [] has = refl
  patches_same first (f ∷ fs) has =
      ap (λ (w : ℕ). record { at = f.offset - first; field = f.field; word = w } ∷ map (patch_with (target_word own (m ∷ []) (0, m)) first) fs) (word_same f.target has.0)
      ∙ ap (λ (l : List Patch). patch_with (target_word bases modules (number, m)) first f ∷ l) (patches_same first fs has.1)

  moved : (x y offset : ℕ) → (x + 0) % 65536 ≡ (y + 0) % 65536 → (x + offset) % 65536 ≡ (y + offset) % 65536
  moved x y offset e = omega arith

  place_same : (c : ContentValue) → is_code c ≡ true → place_in own (m ∷ []) 0 m c.segment c.offset ≡ place_in bases modules number m c.segment c.offset
  place_same c code =
      let is : c.segment ≡ code_id = eqb-true c.segment code_id code in
      ap (λ (id : ℕ). place_in own (m ∷ []) 0 m id c.offset) is
      ∙ moved (own.code + part_start (m ∷ []) 0 1) (bases.code + part_start modules number 1) c.offset (go_with.segments 1 refl)
      ∙ ap (λ (id : ℕ). place_in bases modules number m id c.offset) (sym is)

  chunk_same : (c : ContentValue) → HasItsFixups m c → is_code c ≡ true → chunk_of own (m ∷ []) (0, m) c ≡ chunk_of bases modules (number, m) c
  chunk_same c fixups code =
      ap (λ (n : ℕ). record { place = n; bytes = with_patches (map (patch_with (target_word own (m ∷ []) (0, m)) c.offset) c.fixups) c.bytes }) (place_same c code)
      ∙ ap (λ (l : List Patch). record { place = place_in bases modules number m c.segment c.offset; bytes = with_patches l c.bytes }) (patches_same c.offset c.fixups fixups.targets)

  over_same : (a : ℕ) (cs : List ContentValue) → AllByRecursion (HasItsFixups m) cs
      → AllByRecursion (λ c. chunk_covers a (chunk_of bases modules (number, m) c) ≡ true → is_code c ≡ true) cs
      → filter (chunk_covers a) (map (chunk_of bases modules (number, m)) cs) ≡ filter (chunk_covers a) (map (chunk_of own (m ∷ []) (0, m)) (filter is_code cs))
  over_same a [] fixups only = refl
  over_same a (c ∷ cs) fixups only = go (over_same a cs fixups.1 only.1) (is_code c) refl (chunk_covers a (chunk_of bases modules (number, m) c)) refl
    where
      in_code : (t : Bool) → is_code c ≡ true → (filter (chunk_covers a) (map (chunk_of bases modules (number, m)) cs) ≡ filter (chunk_covers a) (map (chunk_of own (m ∷ []) (0, m)) (filter is_code cs)))
          → filter (chunk_covers a) (chunk_of bases modules (number, m) c ∷ map (chunk_of bases modules (number, m)) cs)
          ≡ filter (chunk_covers a) (chunk_of own (m ∷ []) (0, m) c ∷ map (chunk_of own (m ∷ []) (0, m)) (filter is_code cs))
      in_code t code rest =
          both (chunk_covers a (chunk_of bases modules (number, m) c))
          ∙ ap (λ (k : ByteChunk). filter (chunk_covers a) (k ∷ map (chunk_of own (m ∷ []) (0, m)) (filter is_code cs))) (sym (chunk_same c fixups.0 code))
        where
          both : (t : Bool) → cond t (chunk_of bases modules (number, m) c ∷ filter (chunk_covers a) (map (chunk_of bases modules (number, m)) cs)) (filter (chunk_covers a) (map (chunk_of bases modules (number, m)) cs))
              ≡ cond t (chunk_of bases modules (number, m) c ∷ filter (chunk_covers a) (map (chunk_of own (m ∷ []) (0, m)) (filter is_code cs))) (filter (chunk_covers a) (map (chunk_of own (m ∷ []) (0, m)) (filter is_code cs)))
          both true = ap (λ (l : List ByteChunk). chunk_of bases modules (number, m) c ∷ l) rest
          both false = rest

      go : filter (chunk_covers a) (map (chunk_of bases modules (number, m)) cs) ≡ filter (chunk_covers a) (map (chunk_of own (m ∷ []) (0, m)) (filter is_code cs))
          → (t : Bool) → is_code c ≡ t → (o : Bool) → chunk_covers a (chunk_of bases modules (number, m) c) ≡ o
          → filter (chunk_covers a) (chunk_of bases modules (number, m) c ∷ map (chunk_of bases modules (number, m)) cs)
          ≡ filter (chunk_covers a) (map (chunk_of own (m ∷ []) (0, m)) (cond t (c ∷ filter is_code cs) (filter is_code cs)))
      go rest true code o over = in_code true code rest
      go rest false code true over = elim (true≢false (sym (only.0 over) ∙ code)) [ ]
      go rest false code false over =
          ap (λ (t : Bool). cond t (chunk_of bases modules (number, m) c ∷ filter (chunk_covers a) (map (chunk_of bases modules (number, m)) cs)) (filter (chunk_covers a) (map (chunk_of bases modules (number, m)) cs))) over ∙ rest

-- ---- the law

module _ (keep : SoundModulesKeepRules) (dump : DumpValue) (bases : Bases) (modules : List ModuleValue) (a : ℕ) where
  each_module : (e : ℕ × ModuleValue) → LiesInLink dump bases modules e → OnlyCodeCovers bases modules a e
      → (z : ByteChunk) → last_or None (filter (chunk_covers a) (map (chunk_of bases modules e) e.1.contents)) ≡ Some z → dump_byte dump a ≡ Some (chunk_byte z a)
  each_module (number, m) lies only z k =
      let rules = keep m lies.sound in
      lies.lies.bytes a z
      (ap (λ (l : List ByteChunk). last_or None l) (sym (over_same bases modules number m lies.own rules lies.with_link a m.contents rules.fixups only)) ∙ k)

  all_modules : (es : List (ℕ × ModuleValue)) → AllByRecursion (LiesInLink dump bases modules) es → AllByRecursion (OnlyCodeCovers bases modules a) es
      → AllByRecursion (λ e. (z : ByteChunk) → last_or None (filter (chunk_covers a) (map (chunk_of bases modules e) e.1.contents)) ≡ Some z → dump_byte dump a ≡ Some (chunk_byte z a)) es
  all_modules [] lie only = tt
  all_modules (e ∷ es) lie only = (each_module e lie.0 only.0, all_modules es lie.1 only.1)

  pub link_has : AllByRecursion (LiesInLink dump bases modules) (enumerate_from 0 modules) → AllByRecursion (OnlyCodeCovers bases modules a) (enumerate_from 0 modules)
      → is_covered (chunks_of bases modules) a ≡ true → dump_byte dump a ≡ Some (image_byte bases modules a % 256)
  link_has lie only covered =
      let last = last_is (chunk_covers a) (chunks_of bases modules) covered in
      last_of_each (λ (z : ByteChunk). dump_byte dump a ≡ Some (chunk_byte z a)) (chunk_covers a) (λ e. map (chunk_of bases modules e) e.1.contents) None (enumerate_from 0 modules)
      (λ z s. elim (none_some z s) [ ]) (all_modules (enumerate_from 0 modules) lie only) last.0 last.1
      ∙ ap (λ (o : Option ByteChunk). Some (option_map_or (λ k. slice_index k.bytes (distance k.place a)) o 0 % 256)) (sym last.1)
