-- The references of a content, as patches of its bytes.
use Rattle.std.proofs.Common.{◌≡◌, ℕ, zero, suc, ◌+◌, ◌-◌, ◌<◌, ◌≤◌, Bool, true, false, ◌&&◌, ◌||◌, List, [], ◌∷◌, ◌++◌, length, map, get_or, refl, sym, ap, ◌∙◌, arith}
use Rattle.std.specs.Prelude.{not, nat_le, nat_lt, ◌==◌, IsTrue}
use Rattle.std.specs.List.{list_all, list_any}
use Rattle.std.proofs.lemmas.Bool.{and_parts, and_from, not_from_false, or_parts}
use Rattle.std.proofs.lemmas.Bool.Decides.{nat_tests}
use Rattle.omf_model.specs.declared.segment.Segment.{Segment}
use Rattle.omf_model.specs.declared.symbols.Common.{Common}
use Rattle.omf_body.specs.declared.field.Field.{Field}
use Rattle.omf_body.specs.declared.field.Field.TheVariants.{Low, High, Both}
use Rattle.omf_model.specs.declared.fixup.Fixup.{Fixup}
use Rattle.omf_model.specs.Contents.{ContentValue, offsets_by, offsets_of, is_among, is_inside, is_taken, shares_a_byte}
use Rattle.omf_model.specs.Patches.{is_inside_bytes, are_inside, meets, are_apart}
use Rattle.omf_model.specs.Rules.{each_after, is_fitting, has_target, is_in_bounds, is_content}
use Rattle.omf_model.specs.SoundModules.{as_patch}
use Rattle.omf_model.proofs.AfterLemmas.{all_after, all_after_one, rest_after, none_at, not_true}

-- a fitting reference
fits_inside : (commons : List Common) (externals first size : ℕ) (before : List Fixup) (f : Fixup) →
    IsTrue (is_fitting commons externals first size before f) → IsTrue (is_inside first size f)
fits_inside commons externals first size before f fits =
    (and_parts (is_inside first size f) (not (shares_a_byte before f))
    (and_parts (is_inside first size f && not (shares_a_byte before f)) (has_target commons externals f.target) fits).0).0

fits_apart : (commons : List Common) (externals first size : ℕ) (before : List Fixup) (f : Fixup) →
    IsTrue (is_fitting commons externals first size before f) → shares_a_byte before f ≡ false
fits_apart commons externals first size before f fits =
    not_true (shares_a_byte before f) (and_parts (is_inside first size f) (not (shares_a_byte before f))
    (and_parts (is_inside first size f && not (shares_a_byte before f)) (has_target commons externals f.target) fits).0).1

fits_target : (commons : List Common) (externals first size : ℕ) (before : List Fixup) (f : Fixup) →
    IsTrue (is_fitting commons externals first size before f) → IsTrue (has_target commons externals f.target)
fits_target commons externals first size before f fits =
    (and_parts (is_inside first size f && not (shares_a_byte before f)) (has_target commons externals f.target) fits).1

-- one byte of a reference
among_above : (first size o : ℕ) (rest : Bool) → (is_among first size o && rest) ≡ true → nat_le first o ≡ true
among_above first size o rest h =
    (and_parts (nat_le first o) (nat_lt o (first + size)) (and_parts (is_among first size o) rest h).0).0

among_below : (first size o : ℕ) → is_among first size o ≡ true → nat_lt (o - first) size ≡ true
among_below first size o h =
    let parts = and_parts (nat_le first o) (nat_lt o (first + size)) h in
    grind (arith, nat_tests, parts.0, parts.1)

among_next : (first size o : ℕ) → is_among first size o ≡ true → is_among first size (o + 1) ≡ true → nat_lt (o - first + 1) size ≡ true
among_next first size o h next =
    let parts = and_parts (nat_le first o) (nat_lt o (first + size)) h in
    let more = and_parts (nat_le first (o + 1)) (nat_lt (o + 1) (first + size)) next in
    grind (arith, nat_tests, parts.0, more.1)

-- a reference inside the bytes begins where they begin or later
begins_above : (field : Field) (first size offset : ℕ) → list_all (is_among first size) (offsets_by field offset) ≡ true → nat_le first offset ≡ true
begins_above Low first size offset h = among_above first size offset true h
begins_above High first size offset h = among_above first size offset true h
begins_above Both first size offset h = among_above first size offset (is_among first size (offset + 1) && true) h

-- and its patch is inside them
inside_one : (first size offset : ℕ) → (is_among first size offset && true) ≡ true → (nat_lt (offset - first) size && true) ≡ true
inside_one first size offset h =
    and_from (nat_lt (offset - first) size) true (among_below first size offset (and_parts (is_among first size offset) true h).0) refl

inside_by : (field : Field) (first size offset : ℕ) → list_all (is_among first size) (offsets_by field offset) ≡ true →
    list_all (λ o. nat_lt o size) (offsets_by field (offset - first)) ≡ true
inside_by Low first size offset h = inside_one first size offset h
inside_by High first size offset h = inside_one first size offset h
inside_by Both first size offset h =
    let parts = and_parts (is_among first size offset) (is_among first size (offset + 1) && true) h in
    let next = and_parts (is_among first size (offset + 1)) true parts.1 in
    and_from (nat_lt (offset - first) size) (nat_lt (offset - first + 1) size && true) (among_below first size offset parts.0)
    (and_from (nat_lt (offset - first + 1) size) true (among_next first size offset parts.0 next.0) refl)

-- two references that share no byte, from where the bytes begin
shift_any : (first : ℕ) (os : List ℕ) (x : ℕ) → list_any (λ o. o == (x + first)) (map (λ o. o + first) os) ≡ list_any (λ o. o == x) os
shift_any first [] x = refl
shift_any first (o ∷ os) x =
    let same : ((o + first) == (x + first)) ≡ (o == x) = grind (arith, nat_tests) in
    ap (λ b. b || list_any (λ y. y == (x + first)) (map (λ y. y + first) os)) same ∙ ap (λ b. o == x || b) (shift_any first os x)

shift_both : (first : ℕ) (os xs : List ℕ) →
    list_any (λ x. list_any (λ o. o == x) (map (λ o. o + first) os)) (map (λ o. o + first) xs) ≡ list_any (λ x. list_any (λ o. o == x) os) xs
shift_both first os [] = refl
shift_both first os (x ∷ xs) =
    ap (λ b. b || list_any (λ y. list_any (λ o. o == y) (map (λ o. o + first) os)) (map (λ o. o + first) xs)) (shift_any first os x)
    ∙ ap (λ b. list_any (λ o. o == x) os || b) (shift_both first os xs)

offsets_shift : (field : Field) (first offset : ℕ) → first ≤ offset → offsets_by field offset ≡ map (λ o. o + first) (offsets_by field (offset - first))
offsets_shift Low first offset above = let here : offset ≡ offset - first + first = omega arith in ap (λ o. o ∷ []) here
offsets_shift High first offset above = let here : offset ≡ offset - first + first = omega arith in ap (λ o. o ∷ []) here
offsets_shift Both first offset above =
    let here : offset ≡ offset - first + first = omega arith in
    let next : offset + 1 ≡ offset - first + 1 + first = omega arith in
    ap (λ o. o ∷ (offset + 1) ∷ []) here ∙ ap (λ o. (offset - first + first) ∷ o ∷ []) next

shift_apart : (earlier later : Field) (first a b : ℕ) → first ≤ a → first ≤ b →
    list_any (λ x. list_any (λ o. o == x) (offsets_by earlier a)) (offsets_by later b) ≡ false →
    list_any (λ x. list_any (λ o. o == x) (offsets_by earlier (a - first))) (offsets_by later (b - first)) ≡ false
shift_apart earlier later first a b above below none =
    sym (shift_both first (offsets_by earlier (a - first)) (offsets_by later (b - first)))
    ∙ ap (λ (os : List ℕ). list_any (λ x. list_any (λ o. o == x) os) (map (λ o. o + first) (offsets_by later (b - first)))) (sym (offsets_shift earlier first a above))
    ∙ ap (λ (xs : List ℕ). list_any (λ x. list_any (λ o. o == x) (offsets_by earlier a)) xs) (sym (offsets_shift later first b below))
    ∙ none

-- no offset passes a test that gives another, where none passes that
none_of : (p q : ℕ → Bool) (os : List ℕ) → ((o : ℕ) → p o ≡ false → q o ≡ false) → list_any p os ≡ false → list_any q os ≡ false
none_of p q [] gives none = refl
none_of p q (o ∷ os) gives none =
    let parts = or_parts (p o) (list_any p os) none in
    ap (λ b. b || list_any q os) (gives o parts.0) ∙ none_of p q os gives parts.1

is_above : (first : ℕ) (commons : List Common) (externals size : ℕ) (before : List Fixup) (f : Fixup) →
    IsTrue (is_fitting commons externals first size before f) → nat_le first f.offset ≡ true
is_above first commons externals size before f fits = begins_above f.field first size f.offset (fits_inside commons externals first size before f fits)

le_from_test : (a b : ℕ) → nat_le a b ≡ true → a ≤ b
le_from_test a b h = grind (arith, nat_tests, h)

later_apart : (commons : List Common) (externals first size : ℕ) (word : Fixup → ℕ) (g : Fixup) → nat_le first g.offset ≡ true →
    (front back : List Fixup) (f : Fixup) → IsTrue (is_fitting commons externals first size (front ++ g ∷ back) f) →
    IsTrue (not (meets (as_patch first word g) (as_patch first word f)))
later_apart commons externals first size word g above front back f fits =
    let none : list_any (λ x. list_any (λ o. o == x) (offsets_of g)) (offsets_of f) ≡ false =
    none_of (is_taken (front ++ g ∷ back)) (λ x. list_any (λ o. o == x) (offsets_of g)) (offsets_of f) (λ o. none_at (λ (h : Fixup). list_any (λ x. x == o) (offsets_of h)) front g back) (fits_apart commons externals first size (front ++ g ∷ back) f fits) in
    not_from_false (meets (as_patch first word g) (as_patch first word f))
    (shift_apart g.field f.field first g.offset f.offset (le_from_test first g.offset above)
    (le_from_test first f.offset (is_above first commons externals size (front ++ g ∷ back) f fits)) none)

-- a test of patches is one of references
all_mapped : {A B : Type 0} (make : A → B) (test : B → Bool) (xs : List A) → list_all (λ x. test (make x)) xs ≡ true → list_all test (map make xs) ≡ true
all_mapped make test [] all = refl
all_mapped make test (x ∷ xs) all =
    let parts = and_parts (test (make x)) (list_all (λ y. test (make y)) xs) all in
    and_from (test (make x)) (list_all test (map make xs)) parts.0 (all_mapped make test xs parts.1)

-- fitting references
fixups_apart : (commons : List Common) (externals first size : ℕ) (word : Fixup → ℕ) (before fixups : List Fixup) →
    IsTrue (each_after (is_fitting commons externals first size) before fixups) → IsTrue (are_apart (map (as_patch first word) fixups))
fixups_apart commons externals first size word before [] fits = refl
fixups_apart commons externals first size word before (f ∷ fs) fits =
    let parts = rest_after (is_fitting commons externals first size) before f fs fits in
    let apart : IsTrue (list_all (λ g. not (meets (as_patch first word f) (as_patch first word g))) fs) =
    all_after_one (is_fitting commons externals first size) (λ g. not (meets (as_patch first word f) (as_patch first word g))) before f [] fs
    (later_apart commons externals first size word f (is_above first commons externals size before f parts.0)) parts.1 in
    and_from (list_all (λ q. not (meets (as_patch first word f) q)) (map (as_patch first word) fs)) (are_apart (map (as_patch first word) fs))
    (all_mapped (as_patch first word) (λ q. not (meets (as_patch first word f) q)) fs apart)
    (fixups_apart commons externals first size word (before ++ f ∷ []) fs parts.1)

fits_of : (segments : List (ℕ × Segment)) (commons : List Common) (externals : ℕ) (c : ContentValue) → IsTrue (is_content segments commons externals c) →
    IsTrue (each_after (is_fitting commons externals c.offset (length c.bytes)) [] c.fixups)
fits_of segments commons externals c good = (and_parts (is_in_bounds segments commons c) (each_after (is_fitting commons externals c.offset (length c.bytes)) [] c.fixups) good).1

-- the references of a content are inside its bytes as patches, and share none of them
pub content_inside : (segments : List (ℕ × Segment)) (commons : List Common) (externals : ℕ) (c : ContentValue) (word : Fixup → ℕ) → IsTrue (is_content segments commons externals c) →
    IsTrue (are_inside (length c.bytes) (map (as_patch c.offset word) c.fixups))
content_inside segments commons externals c word good =
    all_mapped (as_patch c.offset word) (is_inside_bytes (length c.bytes)) c.fixups
    (all_after (is_fitting commons externals c.offset (length c.bytes)) (λ f. is_inside_bytes (length c.bytes) (as_patch c.offset word f)) [] c.fixups
    (λ told f fits. inside_by f.field c.offset (length c.bytes) f.offset (fits_inside commons externals c.offset (length c.bytes) told f fits))
    (fits_of segments commons externals c good))

pub content_apart : (segments : List (ℕ × Segment)) (commons : List Common) (externals : ℕ) (c : ContentValue) (word : Fixup → ℕ) → IsTrue (is_content segments commons externals c) →
    IsTrue (are_apart (map (as_patch c.offset word) c.fixups))
content_apart segments commons externals c word good =
    fixups_apart commons externals c.offset (length c.bytes) word [] c.fixups (fits_of segments commons externals c good)

-- each begins where the content does or later, and its target is there
pub content_above : (segments : List (ℕ × Segment)) (commons : List Common) (externals : ℕ) (c : ContentValue) → IsTrue (is_content segments commons externals c) →
    IsTrue (list_all (λ f. nat_le c.offset f.offset) c.fixups)
content_above segments commons externals c good =
    all_after (is_fitting commons externals c.offset (length c.bytes)) (λ f. nat_le c.offset f.offset) [] c.fixups
    (is_above c.offset commons externals (length c.bytes)) (fits_of segments commons externals c good)

pub content_targets : (segments : List (ℕ × Segment)) (commons : List Common) (externals : ℕ) (c : ContentValue) → IsTrue (is_content segments commons externals c) →
    IsTrue (list_all (λ f. has_target commons externals f.target) c.fixups)
content_targets segments commons externals c good =
    all_after (is_fitting commons externals c.offset (length c.bytes)) (λ f. has_target commons externals f.target) [] c.fixups
    (fits_target commons externals c.offset (length c.bytes)) (fits_of segments commons externals c good)

-- what holds of all references holds of the one at a place
pub test_at : {A : Type 0} (test : A → Bool) (xs : List A) (i : ℕ) (d : A) → IsTrue (list_all test xs) → i < length xs → IsTrue (test (get_or xs i d))
test_at test [] i d all below = absurd (omega arith)
test_at test (x ∷ xs) zero d all below = (and_parts (test x) (list_all test xs) all).0
test_at test (x ∷ xs) (suc i) d all below = test_at test xs i d (and_parts (test x) (list_all test xs) all).1 (omega arith)
