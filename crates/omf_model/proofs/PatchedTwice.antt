-- A reference that is increased twice.
use Rattle.std.specs.Prelude.{◌≡◌, ◌⊎◌, ℕ, ◌+◌, ◌*◌, ◌/◌, ◌%◌, ◌<◌, ◌==◌, Bool, true, false, ◌||◌, List, [], ◌∷◌, length, slice_index, IsTrue, refl, if◌then◌else◌}
use Rattle.std.proofs.Common.{◌∙◌, ap, sym, arith, inl, inr, eq-eqb}
use Rattle.std.proofs.lemmas.Bool.{cases_Bool}
use Rattle.std.proofs.lemmas.Bool.Decides.{nat_tests}
use Rattle.omf_body.specs.declared.field.Field.{Field}
use Rattle.omf_body.specs.declared.field.Field.TheVariants.{Low, High, Both}
use Rattle.omf_model.specs.Patches.{patches_at, word_in_bytes, patched, with_patches, is_inside_bytes}
use Rattle.omf_model.specs.PatchLaws.{patch_by, PatchedTwice}
use Rattle.omf_model.proofs.PatchLemmas.{low_twice, both_twice, high_twice}
use Rattle.omf_model.proofs.PatchingLemmas.{length-with_patches, with_patches_at, are_patched, first_has, first_lacks, stays, second_below}

-- a byte of the reference after the first word
byte_after : (field : Field) (at u : ℕ) (bytes : List ℕ) (i : ℕ) → i < length bytes → patches_at i (patch_by field at u) ≡ true
    → slice_index (with_patches (patch_by field at u ∷ []) bytes) i ≡ patched field bytes at u i
byte_after field at u bytes i below has = with_patches_at (patch_by field at u ∷ []) bytes i below ∙ first_has (patch_by field at u) [] bytes i has

word_again : (n w : ℕ) → n ≡ w % 65536 % 256 + 256 * (w % 65536 / 256 % 256) → n ≡ w % 65536
word_again n w is = omega (arith, is)

-- the word after the first word
word_after : (at u : ℕ) (bytes : List ℕ) → at + 1 < length bytes
    → word_in_bytes (with_patches (patch_by Both at u ∷ []) bytes) at ≡ (word_in_bytes bytes at + u) % 65536
word_after at u bytes below =
    let w : ℕ = word_in_bytes bytes at + u in
    let same : (at == at) ≡ true = eq-eqb at at refl in
    let next : ((at + 1) == at) ≡ false = grind (arith, nat_tests) in
    let has_low : patches_at at (patch_by Both at u) ≡ true = ap (λ (b : Bool). b || ((at + 1) == at || false)) same in
    let has_high : patches_at (at + 1) (patch_by Both at u) ≡ true = grind (arith, nat_tests) in
    let low : slice_index (with_patches (patch_by Both at u ∷ []) bytes) at ≡ w % 65536 % 256 =
    byte_after Both at u bytes at (omega (arith, below)) has_low ∙ ap (λ (b : Bool). if b then w % 65536 % 256 else w % 65536 / 256 % 256) same in
    let high : slice_index (with_patches (patch_by Both at u ∷ []) bytes) (at + 1) ≡ w % 65536 / 256 % 256 =
    byte_after Both at u bytes (at + 1) below has_high ∙ ap (λ (b : Bool). if b then w % 65536 % 256 else w % 65536 / 256 % 256) next in
    word_again (word_in_bytes (with_patches (patch_by Both at u ∷ []) bytes) at) w
    (ap (λ (n : ℕ). n + 256 * slice_index (with_patches (patch_by Both at u ∷ []) bytes) (at + 1)) low ∙ ap (λ (n : ℕ). w % 65536 % 256 + 256 * n) high)

-- a byte of the reference after both words
pub twice_here : (field : Field) (at u v : ℕ) (bytes : List ℕ) (i : ℕ) → IsTrue (is_inside_bytes (length bytes) (patch_by field at u)) → i < length bytes
    → patches_at i (patch_by field at u) ≡ true → (field ≡ High → (u % 256 ≡ 0) ⊎ (v % 256 ≡ 0))
    → patched field (with_patches (patch_by field at u ∷ []) bytes) at v i ≡ patched field bytes at ((u + v) % 65536) i
twice_here Low at u v bytes i inside below has even =
    ap (λ (n : ℕ). (n + v % 256) % 256) (byte_after Low at u bytes i below has) ∙ low_twice (slice_index bytes i) u v
twice_here High at u v bytes i inside below has even =
    ap (λ (n : ℕ). (n + v / 256 % 256) % 256) (byte_after High at u bytes i below has) ∙ high_twice (slice_index bytes i) u v (even refl)
twice_here Both at u v bytes i inside below has even =
    ap (λ (n : ℕ). if i == at then n % 256 else n / 256 % 256)
    (ap (λ (n : ℕ). (n + v) % 65536) (word_after at u bytes (second_below at (length bytes) inside)) ∙ both_twice (word_in_bytes bytes at) u v)

pub patched_twice : PatchedTwice
patched_twice field at u v bytes inside even =
    let first : List ℕ = with_patches (patch_by field at u ∷ []) bytes in
    let after : List ℕ = with_patches (patch_by field at v ∷ []) first in
    are_patched (patch_by field at ((u + v) % 65536) ∷ []) bytes after (length-with_patches (patch_by field at v ∷ []) first ∙ length-with_patches (patch_by field at u ∷ []) bytes) (λ i below.
    with_patches_at (patch_by field at v ∷ []) first i (omega (arith, below, length-with_patches (patch_by field at u ∷ []) bytes)) ∙
    elim (cases_Bool (patches_at i (patch_by field at u))) [
      | inl has ↦
          first_has (patch_by field at v) [] first i has ∙ twice_here field at u v bytes i inside below has even
          ∙ sym (first_has (patch_by field at ((u + v) % 65536)) [] bytes i has)
      | inr lacks ↦
          first_lacks (patch_by field at v) [] first i lacks ∙ stays (patch_by field at u) bytes i lacks
          ∙ sym (first_lacks (patch_by field at ((u + v) % 65536)) [] bytes i lacks)
    ])
