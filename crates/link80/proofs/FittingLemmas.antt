-- The fixups that are left lie in the moved content, apart from one another.
use Rattle.std.specs.Prelude.{◌≡◌, ℕ, ◌+◌, ◌==◌, Bool, true, false, not, ◌&&◌, ◌||◌, Option, Some, None, option_map, List, [], ◌∷◌, ◌++◌, filter_map, refl}
use Rattle.std.specs.List.{list_all, list_any, cons_option, AllByRecursion}
use Rattle.std.proofs.Common.{◌∙◌, ap, sym, arith}
use Rattle.std.proofs.lemmas.Bool.{and_parts, and_from, or_parts, or_from, not_from_false, not-true}
use Rattle.std.proofs.lemmas.Bool.Decides.{nat_tests}
use Rattle.omf_model.specs.declared.symbols.Common.{Common}
use Rattle.omf_body.specs.declared.field.Field.{Field}
use Rattle.omf_body.specs.declared.field.Field.TheVariants.{Low, High, Both}
use Rattle.omf_model.specs.declared.fixup.Fixup.{Fixup}
use Rattle.omf_model.specs.declared.fixup.Target.{Target}
use Rattle.omf_model.specs.Contents.{offsets_by, is_taken, shares_a_byte, is_among, is_inside}
use Rattle.omf_model.specs.Rules.{each_after, has_target, is_fitting}
use Rattle.link80.specs.Linked.{fixup_to}

-- ---- one fixup, moved

among_moved : (first size o start : ℕ) → is_among (first + start) size (o + start) ≡ is_among first size o
among_moved first size o start = grind (arith, nat_tests)

among_next : (first size o start : ℕ) → is_among (first + start) size (o + start + 1) ≡ is_among first size (o + 1)
among_next first size o start = grind (arith, nat_tests)

inside_moved : (field : Field) (first size o start : ℕ) → list_all (is_among first size) (offsets_by field o) ≡ true
    → list_all (is_among (first + start) size) (offsets_by field (o + start)) ≡ true
inside_moved Low first size o start h = ap (λ b. b && true) (among_moved first size o start) ∙ h
inside_moved High first size o start h = ap (λ b. b && true) (among_moved first size o start) ∙ h
inside_moved Both first size o start h =
    ap (λ b. b && (is_among (first + start) size (o + start + 1) && true)) (among_moved first size o start)
    ∙ ap (λ b. is_among first size o && (b && true)) (among_next first size o start) ∙ h

same_moved : (a b start : ℕ) → (a + start == (b + start)) ≡ (a == b)
same_moved a b start = grind (arith, nat_tests)

next_moved : (a b start : ℕ) → (a + start + 1 == (b + start)) ≡ (a + 1 == b)
next_moved a b start = grind (arith, nat_tests)

at_moved : (field : Field) (a o start : ℕ)
    → list_any (λ x. x == (o + start)) (offsets_by field (a + start)) ≡ list_any (λ x. x == o) (offsets_by field a)
at_moved Low a o start = ap (λ b. b || false) (same_moved a o start)
at_moved High a o start = ap (λ b. b || false) (same_moved a o start)
at_moved Both a o start = ap (λ b. b || (a + start + 1 == (o + start) || false)) (same_moved a o start)
    ∙ ap (λ b. a == o || (b || false)) (next_moved a o start)

-- ---- the fixups before it

abbrev moved_fixup : ℕ → (Fixup → Option Target) → Fixup → Option Fixup
moved_fixup start to f = option_map (fixup_to start f) (to f)

taken_moved : (start : ℕ) (to : Fixup → Option Target) (before : List Fixup) (o : ℕ) → is_taken before o ≡ false
    → is_taken (filter_map (moved_fixup start to) before) (o + start) ≡ false
taken_moved start to [] o none = refl
taken_moved start to (f ∷ fs) o none =
    let parts = or_parts (list_any (λ x. x == o) (offsets_by f.field f.offset)) (is_taken fs o) none in
    let rest : List Fixup = filter_map (moved_fixup start to) fs in
    let free : is_taken rest (o + start) ≡ false = taken_moved start to fs o parts.1 in
    elim (to f) as (λ t. is_taken (cons_option (option_map (fixup_to start f) t) rest) (o + start) ≡ false) [
      | None ↦ free
      | Some t ↦ or_from (list_any (λ x. x == (o + start)) (offsets_by f.field (f.offset + start))) (is_taken rest (o + start))
          (at_moved f.field f.offset o start ∙ parts.0) free
    ]

taken_next : (start : ℕ) (to : Fixup → Option Target) (before : List Fixup) (o : ℕ) → is_taken before (o + 1) ≡ false
    → is_taken (filter_map (moved_fixup start to) before) (o + start + 1) ≡ false
taken_next start to before o none =
    let same : o + 1 + start ≡ o + start + 1 = omega arith in
    ap (is_taken (filter_map (moved_fixup start to) before)) (sym same) ∙ taken_moved start to before (o + 1) none

apart_moved : (field : Field) (start : ℕ) (to : Fixup → Option Target) (before : List Fixup) (o : ℕ)
    → list_any (is_taken before) (offsets_by field o) ≡ false →
    list_any (is_taken (filter_map (moved_fixup start to) before)) (offsets_by field (o + start)) ≡ false
apart_moved Low start to before o none =
    or_from (is_taken (filter_map (moved_fixup start to) before) (o + start)) false
    (taken_moved start to before o (or_parts (is_taken before o) false none).0) refl
apart_moved High start to before o none =
    or_from (is_taken (filter_map (moved_fixup start to) before) (o + start)) false
    (taken_moved start to before o (or_parts (is_taken before o) false none).0) refl
apart_moved Both start to before o none =
    let parts = or_parts (is_taken before o) (is_taken before (o + 1) || false) none in
    let next = or_parts (is_taken before (o + 1)) false parts.1 in
    let after : List Fixup = filter_map (moved_fixup start to) before in
    or_from (is_taken after (o + start)) (is_taken after (o + start + 1) || false) (taken_moved start to before o parts.0)
    (or_from (is_taken after (o + start + 1)) false (taken_next start to before o next.0) refl)

-- ---- all of them

more : (start : ℕ) (to : Fixup → Option Target) (before : List Fixup) (f : Fixup)
    → filter_map (moved_fixup start to) (before ++ f ∷ []) ≡ filter_map (moved_fixup start to) before
    ++ cons_option (moved_fixup start to f) []
more start to [] f = refl
more start to (b ∷ bs) f =
    let rest : List Fixup = filter_map (moved_fixup start to) bs in
    ap (cons_option (moved_fixup start to b)) (more start to bs f)
    ∙ elim (moved_fixup start to b) as
    (λ o. cons_option o (rest ++ cons_option (moved_fixup start to f) []) ≡ cons_option o rest
    ++ cons_option (moved_fixup start to f) []) [ None ↦ refl | Some g ↦ refl ]

append_none : (xs : List Fixup) → xs ++ [] ≡ xs
append_none [] = refl
append_none (x ∷ xs) = ap (λ l. x ∷ l) (append_none xs)

pub record Resolved (commons : List Common) (externals : ℕ) (to : Fixup → Option Target) (f : Fixup) : Type 0 where
  pub there : (t : Target) → to f ≡ Some t → has_target commons externals t ≡ true

pub fitting_moved : (commons linked : List Common) (externals left first size start : ℕ) (to : Fixup
    → Option Target) (before fixups : List Fixup) →
    each_after (is_fitting commons externals first size) before fixups ≡ true → AllByRecursion (Resolved linked left to) fixups →
    each_after (is_fitting linked left (first + start) size) (filter_map (moved_fixup start to) before)
    (filter_map (moved_fixup start to) fixups) ≡ true
fitting_moved commons linked externals left first size start to before [] fits resolved = refl
fitting_moved commons linked externals left first size start to before (f ∷ fs) fits resolved =
    let parts = and_parts (is_fitting commons externals first size before f)
    (each_after (is_fitting commons externals first size) (before ++ f ∷ []) fs) fits in
    let two = and_parts (is_inside first size f && not (shares_a_byte before f))
    (has_target commons externals f.target) parts.0 in
    let one = and_parts (is_inside first size f) (not (shares_a_byte before f)) two.0 in
    let after : List Fixup = filter_map (moved_fixup start to) before in
    let rest : List Fixup = filter_map (moved_fixup start to) fs in
    let test : List Fixup → Fixup → Bool = is_fitting linked left (first + start) size in
    let others : each_after test (filter_map (moved_fixup start to) (before ++ f ∷ [])) rest ≡ true =
    fitting_moved commons linked externals left first size start to (before ++ f ∷ []) fs parts.1 resolved.1 in
    let then : each_after test (after ++ cons_option (moved_fixup start to f) []) rest ≡ true =
    ap (λ l. each_after test l rest) (sym (more start to before f)) ∙ others in
    (elim (to f) as (λ o. to f ≡ o → each_after test (after ++ cons_option (option_map (fixup_to start f) o) []) rest ≡ true
    → each_after test after (cons_option (option_map (fixup_to start f) o) rest) ≡ true) [
      | None ↦ λ _ h. ap (λ l. each_after test l rest) (sym (append_none after)) ∙ h
      | Some t ↦ λ is h.
          let g : Fixup = fixup_to start f t in
          and_from (test after g) (each_after test (after ++ g ∷ []) rest)
          (and_from (is_inside (first + start) size g && not (shares_a_byte after g)) (has_target linked left t)
          (and_from (is_inside (first + start) size g) (not (shares_a_byte after g))
          (inside_moved f.field first size f.offset start one.0)
          (not_from_false (shares_a_byte after g)
          (apart_moved f.field start to before f.offset (not-true (shares_a_byte before f) one.1))))
          (resolved.0.there t is))
          h
    ]) refl then
