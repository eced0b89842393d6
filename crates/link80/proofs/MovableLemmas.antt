-- The contents of modules can be moved, where no linked segment is too long.
use Rattle.std.specs.Prelude.{◌≡◌, ◌≤◌, ◌<◌, ◌⊎◌, ℕ, zero, suc, ◌+◌, ◌-◌, ◌==◌, nat_lt, true, ◌&&◌, Some, None, List, [], ◌∷◌, length, map, slice_get, slice_index}
use Rattle.std.specs.List.{AllByRecursion, list_all, enumerate_from}
use Rattle.std.proofs.Common.{ap, arith, cond, inl, inr, subst, eqb-true}
use Rattle.std.proofs.lemmas.Bool.{cases_Bool, and_parts}
use Rattle.std.proofs.lemmas.Bool.Decides.{nat_tests}
use Rattle.omf_body.specs.declared.field.Field.{Field}
use Rattle.omf_body.specs.declared.field.Field.TheVariants.{Low, High, Both}
use Rattle.omf_model.specs.declared.fixup.Fixup.{Fixup}
use Rattle.omf_model.specs.Contents.{ContentValue, offsets_by}
use Rattle.omf_model.specs.Segments.{segment_in}
use Rattle.omf_model.specs.Modules.{ModuleValue}
use Rattle.omf_model.specs.Rules.{IsModule, end_of}
use Rattle.omf_model.specs.Patches.{is_inside_bytes}
use Rattle.omf_model.specs.Place.{is_laid_out, part_start, starts_from}
use Rattle.omf_model.specs.SoundModules.{SoundModulesKeepRules, LiesIn, HasItsFixups, as_patch}
use Rattle.link80.specs.Linked.{greatest, linked_commons, part_of, parts_end, linked_length}
use Rattle.link80.specs.LinkFault.{segment_too_long}
use Rattle.link80.specs.Movable.{CanBeMoved}
use Rattle.link80.proofs.RuleLemmas.{all_fit, PartsFit}
use Rattle.link80.proofs.WordLemmas.{laid_out_word}

some_is : {A : Type 0} (a b : A) → Some a ≡ Some b → a ≡ b
some_is a b e = cc

all_at : {A : Type 0} (P : ℕ × A → Type 0) (k : ℕ) (xs : List A) (n : ℕ) (x : A) → AllByRecursion P (enumerate_from k xs)
    → slice_get xs n ≡ Some x → P (k + n, x)
all_at P k [] n x all at = absurd cc
all_at P k (y ∷ ys) zero x all at = let first : k ≡ k + 0 = omega arith in
    subst (λ i. P (i, x)) first (subst (λ z. P (k, z)) (some_is y x at) all.0)
all_at P k (y ∷ ys) (suc n) x all at = let next : k + 1 + n ≡ k + suc n = omega arith in
    subst (λ i. P (i, x)) next (all_at P (k + 1) ys n x all.1 at)

-- where a part starts later than its segment, it ends at a word
pub part_fits : (modules : List ModuleValue) (number : ℕ) (m : ModuleValue) (id : ℕ) → slice_get modules number ≡ Some m
    → segment_too_long modules ≡ None →
    (part_start modules number id ≡ 0) ⊎ (part_start modules number id + (segment_in m.segments id).length ≤ 65535)
part_fits modules number m id at fit = elim (cases_Bool (is_laid_out id)) [
  | inr over ↦ inl (ap (λ b. cond b (slice_index (starts_from id 0 modules) number) 0) over)
  | inl laid ↦
      let from_zero : 0 + number ≡ number = omega arith in
      let here : PartsFit modules (number, m) =
      subst (λ i. PartsFit modules (i, m)) from_zero (all_at (PartsFit modules) 0 modules number m (all_fit modules) at) in
      let here_is : slice_index (starts_from id 0 modules) number + (segment_in m.segments id).length ≤ parts_end id 0 modules =
      here.laid id in
      let start : part_start modules number id ≡ slice_index (starts_from id 0 modules) number =
      ap (λ b. cond b (slice_index (starts_from id 0 modules) number) 0) laid in
      let long : linked_length modules id ≡ parts_end id 0 modules =
      ap (λ b. cond b (parts_end id 0 modules) (greatest (map (λ k. (part_of (linked_commons modules) k id).length) modules)))
      laid in
      inr (omega (arith, here_is, start, long, laid_out_word modules id fit laid))
]

-- the fixups begin inside the bytes
begins_inside : (field : Field) (at size : ℕ) → list_all (λ o. nat_lt o size) (offsets_by field at) ≡ true → at < size
begins_inside Low at size inside = grind (arith, nat_tests, (and_parts (nat_lt at size) true inside).0)
begins_inside High at size inside = grind (arith, nat_tests, (and_parts (nat_lt at size) true inside).0)
begins_inside Both at size inside = grind (arith, nat_tests, (and_parts (nat_lt at size) (nat_lt (at + 1) size && true) inside).0)

fixups_end : (first size : ℕ) (fixups : List Fixup)
    → list_all (is_inside_bytes size) (map (as_patch first (λ _. 0)) fixups) ≡ true
    → AllByRecursion (λ f. first ≤ f.offset) fixups → AllByRecursion (λ f. f.offset < first + size) fixups
fixups_end first size [] inside begin = tt
fixups_end first size (f ∷ fs) inside begin =
    let parts = and_parts (list_all (λ o. nat_lt o size) (offsets_by f.field (f.offset - first)))
    (list_all (is_inside_bytes size) (map (as_patch first (λ _. 0)) fs)) inside in
    let one : f.offset - first < size = begins_inside f.field (f.offset - first) size parts.0 in
    (omega (arith, one, begin.0), fixups_end first size fs parts.1 begin.1)

content_fits : (modules : List ModuleValue) (number : ℕ) (m : ModuleValue) (c : ContentValue) → slice_get modules number ≡ Some m
    → segment_too_long modules ≡ None → LiesIn m c →
    (part_start modules number c.segment ≡ 0) ⊎ (part_start modules number c.segment + c.offset + length c.bytes ≤ 65535)
content_fits modules number m c at fit lies = elim (cases_Bool (c.segment == 0)) [
  | inl absolute ↦ inl (ap (part_start modules number) (eqb-true c.segment 0 absolute))
  | inr relocatable ↦
      let end_is : end_of m.segments c.segment ≡ (segment_in m.segments c.segment).length =
      ap (λ b. cond b 65536 (segment_in m.segments c.segment).length) relocatable in
      elim (part_fits modules number m c.segment at fit) [
        | inl none ↦ inl none
        | inr ends ↦ inr (omega (arith, ends, end_is, lies.within))
      ]
]

each_can : (modules : List ModuleValue) (number : ℕ) (m : ModuleValue) (cs : List ContentValue)
    → slice_get modules number ≡ Some m → segment_too_long modules ≡ None →
    AllByRecursion (LiesIn m) cs → AllByRecursion (HasItsFixups m) cs → AllByRecursion (CanBeMoved modules number m) cs
each_can modules number m [] at fit lie have = tt
each_can modules number m (c ∷ cs) at fit lie have = (
  record {
    fits = content_fits modules number m c at fit lie.0;
    fixups = have.0;
    ends = fixups_end c.offset (length c.bytes) c.fixups (have.0.inside (λ _. 0)) have.0.begin;
  },
  each_can modules number m cs at fit lie.1 have.1,
)

pub can_be_moved : SoundModulesKeepRules → (modules : List ModuleValue) (number : ℕ) (m : ModuleValue)
    → slice_get modules number ≡ Some m → segment_too_long modules ≡ None → IsModule m →
    AllByRecursion (CanBeMoved modules number m) m.contents
can_be_moved keep modules number m at fit is = let rules = keep m is.sound in
    each_can modules number m m.contents at fit rules.contents rules.fixups
