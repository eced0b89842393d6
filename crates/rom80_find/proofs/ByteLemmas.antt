-- A byte of a content with its fixups applied is that of its pattern.
use Rattle.std.specs.Prelude.{◌≡◌, ℕ, ◌+◌, ◌-◌, ◌*◌, ◌/◌, ◌%◌, ◌==◌, ◌||◌, cond, Bool, true, false, if◌then◌else◌, Some, List, [], ◌∷◌, length, map, find, slice_index, IsTrue}
use Rattle.std.specs.List.{AllByRecursion, list_any}
use Rattle.std.specs.Option.{option_map_or}
use Rattle.std.proofs.Common.{refl, sym, ◌∙◌, ap, arith, inl, inr}
use Rattle.std.proofs.lemmas.Bool.{eqb-true, true≢false, or_cases}
use Rattle.omf_body.specs.declared.field.Field.{Field}
use Rattle.omf_body.specs.declared.field.Field.TheVariants as field
use Rattle.omf_model.specs.declared.fixup.Fixup.{Fixup}
use Rattle.omf_model.specs.Contents.{ContentValue, offsets_by}
use Rattle.omf_model.specs.Modules.{ModuleValue}
use Rattle.omf_model.specs.Rules.{has_target}
use Rattle.omf_model.specs.Place.{Bases}
use Rattle.omf_model.specs.ImageByte.{patch_with, target_word}
use Rattle.omf_model.specs.Patches.{word_in_bytes, patched, byte_with}
use Rattle.rom80_pattern.specs.declared.code_byte.Half.TheVariants as half
use Rattle.rom80_pattern.specs.declared.resolving.Resolved.{Resolved}
use Rattle.rom80_pattern.specs.CodeBytes.{number_of, half_of, byte_by}
use Rattle.rom80_pattern.specs.Modules.{resolved, has_byte, plain_byte, field_byte, fixup_byte, byte_by_fixups}
use Rattle.rom80_find.proofs.BaseLemmas.{Agrees, value_by, target_agrees}
use Rattle.omf_model.specs.SoundModules.{RulesOf}

low_byte : (v a b w : ℕ) → w % 65536 ≡ (v + a) % 65536 → (v + (a + b) % 65536) % 65536 % 256 ≡ (b + w % 256) % 256 % 256
low_byte v a b w e = omega arith

high_byte : (v a b w : ℕ) → w % 65536 ≡ (v + a) % 65536 → (v + (a + 256 * b) % 65536) % 65536 / 256 % 256 ≡ (b + w / 256 % 256) % 256 % 256
high_byte v a b w e = omega arith

both_bytes : (v a b w : ℕ) → w % 65536 ≡ (v + a) % 65536 → (v + (a + b) % 65536) % 65536 ≡ (b + w) % 65536
both_bytes v a b w e = omega arith

low_again : (n : ℕ) → n % 256 ≡ n % 256 % 256
low_again n = omega arith

one_is : (at i : ℕ) → ((at == i) || false) ≡ true → at ≡ i
one_is at i e = elim (or_cases (at == i) false e) [ inl k ↦ eqb-true at i k | inr k ↦ elim (true≢false (sym k)) [ ] ]

pub field_same : (f : Field) (r : Resolved) (value : ℕ → ℕ) (c : ContentValue) (at i word : ℕ) → word % 65536 ≡ value_by value r
    → list_any (λ o. o == i) (offsets_by f at) ≡ true → byte_by value (field_byte f r c at i) ≡ patched f c.bytes at word i % 256
field_same field.Low r value c at i word e has =
    low_byte (value (number_of r.target)) r.addend (slice_index c.bytes at) word e
    ∙ ap (λ (n : ℕ). (slice_index c.bytes n + word % 256) % 256 % 256) (one_is at i has)
field_same field.High r value c at i word e has =
    high_byte (value (number_of r.target)) r.addend (slice_index c.bytes at) word e
    ∙ ap (λ (n : ℕ). (slice_index c.bytes n + word / 256 % 256) % 256 % 256) (one_is at i has)
field_same field.Both r value c at i word e has = go (i == at)
  where
    sum : (value (number_of r.target) + (r.addend + word_in_bytes c.bytes at) % 65536) % 65536 ≡ (word_in_bytes c.bytes at + word) % 65536
    sum = both_bytes (value (number_of r.target)) r.addend (word_in_bytes c.bytes at) word e

    go : (t : Bool) → half_of (if t then half.Low else half.High) ((value (number_of r.target) + (r.addend + word_in_bytes c.bytes at) % 65536) % 65536)
        ≡ (if t then (word_in_bytes c.bytes at + word) % 65536 % 256 else (word_in_bytes c.bytes at + word) % 65536 / 256 % 256) % 256
    go true = ap (λ (n : ℕ). n % 256) sum ∙ low_again ((word_in_bytes c.bytes at + word) % 65536)
    go false = ap (λ (n : ℕ). n / 256 % 256) sum ∙ low_again ((word_in_bytes c.bytes at + word) % 65536 / 256)

-- a byte of a content by some of its fixups
module _ (m : ModuleValue) (bases : Bases) (value : ℕ → ℕ) (rules : RulesOf m) (a : Agrees m bases value) (c : ContentValue) where
  pub byte_same : (i : ℕ) (fs : List Fixup) → AllByRecursion (λ f. IsTrue (has_target m.commons (length m.externals) f.target)) fs
      → byte_by value (byte_by_fixups m c i fs) ≡ byte_with (map (patch_with (target_word bases (m ∷ []) (0, m)) c.offset) fs) c.bytes i % 256
  byte_same i [] has = plain (value 0) (slice_index c.bytes i) a.zero
    where
      plain : (v b : ℕ) → v ≡ 0 → (v + b) % 65536 % 256 ≡ b % 256
      plain v b z = omega arith
  byte_same i (f ∷ fs) has = go (byte_same i fs has.1) (has_byte c i f) refl
    where
      go : byte_by value (byte_by_fixups m c i fs) ≡ byte_with (map (patch_with (target_word bases (m ∷ []) (0, m)) c.offset) fs) c.bytes i % 256
          → (t : Bool) → has_byte c i f ≡ t
          → byte_by value (option_map_or (fixup_byte m c i) (cond t (Some f) (find (has_byte c i) fs)) (plain_byte c i))
          ≡ option_map_or (λ p. patched p.field c.bytes p.at p.word i)
          (cond t (Some (patch_with (target_word bases (m ∷ []) (0, m)) c.offset f)) (find (λ p. list_any (λ o. o == i) (offsets_by p.field p.at)) (map (patch_with (target_word bases (m ∷ []) (0, m)) c.offset) fs)))
          (slice_index c.bytes i) % 256
      go rest true e = field_same f.field (resolved m f.target) value c (f.offset - c.offset) i (target_word bases (m ∷ []) (0, m) f.target) (target_agrees m bases value rules a f.target has.0) e
      go rest false e = rest
