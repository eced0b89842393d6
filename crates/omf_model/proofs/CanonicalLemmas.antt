-- The canonical form of the segments of a module has the segments that were listed, and is its own canonical form.
use Rattle.std.proofs.Common.{◌≡◌, ℕ, zero, suc, ◌+◌, ◌<◌, ◌≤◌, Bool, true, false, ◌||◌, ◌&&◌, List, [], ◌∷◌, ◌++◌, length, Option, Some, None, refl, sym, ◌∙◌, ap, arith, inl, inr, subst, IsTrue}
use Rattle.std.proofs.lemmas.Bool.{and_parts, or_parts, or_cases, or_right, leb-true, ltb-false, eqb-true}
use Rattle.std.proofs.lemmas.Bool.Decides.{eqb_tells}
use Rattle.std.specs.List.{list_any, list_all, range_with_len, cons_option, find}
use Rattle.std.specs.Option.{option_map_or}
use Rattle.std.specs.Prelude.{not, ◌==◌, nat_le, nat_lt, if◌then◌else◌}
use Rattle.omf_model.specs.declared.segment.Segment.{Segment}
use Rattle.omf_model.specs.declared.symbols.Common.{Common}
use Rattle.omf_model.specs.Segments.{empty_segment, segment_in, entries_for, listed_ids, canonical_segments, has_common_id, has_segment, is_used, is_fixed_id}
use Rattle.omf_model.specs.Contents.{ContentValue}
use Rattle.omf_model.specs.Modules.{ModuleValue, made_of, segment_of}
use Rattle.omf_model.specs.Rules.{each_after, is_new_entry, is_new_common, end_of, is_in_bounds, is_content, is_fitting, is_sound, keeps_rules, has_names, IsModule}
use Rattle.omf_model.specs.SoundParts.{sound_parts, in_bounds_parts, new_common}

abbrev segment_by : ℕ → Bool → Segment
segment_by length paged = record { length = length; paged = paged }

-- a segment that is not used is the empty one
unused : (s : Segment) → is_used s ≡ false → s ≡ empty_segment
unused s off =
    let none : s.length ≡ 0 = omega (arith, ltb-false 0 s.length (or_parts (nat_lt 0 s.length) s.paged off).0) in
    ap (λ n. segment_by n s.paged) none ∙ ap (segment_by 0) (or_parts (nat_lt 0 s.length) s.paged off).1

-- the segment of a listed id, or none
abbrev chosen : Bool → Segment → Segment
chosen b s = if b then s else empty_segment

abbrev head_entry : Bool → ℕ → Segment → List (ℕ × Segment) → List (ℕ × Segment)
head_entry listed i s rest = cons_option (if listed then Some (i, s) else None) rest

-- the first entry is looked at before the others
at_head : (listed here there : Bool) (i id : ℕ) (s own : Segment) (rest : List (ℕ × Segment))
    → (i == id) ≡ here → (here ≡ true → s ≡ own) → (here ≡ true → listed ≡ false → own ≡ empty_segment)
    → segment_in rest id ≡ chosen there own
    → segment_in (head_entry listed i s rest) id ≡ chosen (here || there) own
at_head true true there i id s own rest is same none others = rw is (same refl)
at_head true false there i id s own rest is same none others = rw is others
at_head false true true i id s own rest is same none others = others
at_head false true false i id s own rest is same none others = others ∙ sym (none refl refl)
at_head false false there i id s own rest is same none others = others

same_by_test : {A : Type 0} (f : ℕ → A) (i id : ℕ) → (i == id) ≡ true → f i ≡ f id
same_by_test f i id e =
    elim (eqb_tells i id) [
      | inl is ↦ ap f is.1
      | inr off ↦ absurd cc
    ]

segment_in-entries_for : (e : List (ℕ × Segment)) (c : List Common) (id : ℕ) (ids : List ℕ)
    → segment_in (entries_for e c ids) id ≡ chosen (list_any (λ i. i == id) ids) (segment_in e id)
unfolding entries_for
segment_in-entries_for e c id [] = refl
segment_in-entries_for e c id (i ∷ is) =
    at_head (has_common_id c i || is_used (segment_in e i)) (i == id) (list_any (λ j. j == id) is) i id (segment_in e i) (segment_in e id) (entries_for e c is)
    refl
    (λ here. same_by_test (segment_in e) i id here)
    (λ here off. unused (segment_in e id) (sym (ap is_used (same_by_test (segment_in e) i id here)) ∙ (or_parts (has_common_id c i) (is_used (segment_in e i)) off).1))
    (segment_in-entries_for e c id is)

range_has : (id a n : ℕ) → a ≤ id → id < a + n → list_any (λ i. i == id) (range_with_len a n) ≡ true
range_has id a zero low high = absurd (omega arith)
range_has id a (suc n) low high =
    elim (eqb_tells a id) as (λ _. ((a == id) || list_any (λ i. i == id) (range_with_len (a + 1) n)) ≡ true) [
      | inl is ↦ rw is.0 refl
      | inr off ↦ rw off.0 (range_has id (a + 1) n (omega (arith, off.1)) (omega arith))
    ]

pub listed_has : (id : ℕ) → 1 ≤ id → id < 256 → list_any (λ i. i == id) listed_ids ≡ true
unfolding listed_ids
listed_has id low high = range_has id 1 255 low (omega arith)

-- the one form has the segments that were listed
pub segment_in-canonical : (e : List (ℕ × Segment)) (c : List Common) (id : ℕ) → 1 ≤ id → id < 256 → segment_in (canonical_segments e c) id ≡ segment_in e id
segment_in-canonical e c id low high =
    segment_in-entries_for e c id listed_ids ∙ ap (λ b. chosen b (segment_in e id)) (listed_has id low high)

abbrev entry_by : List Common → ℕ → Segment → Option (ℕ × Segment)
entry_by c id s = if has_common_id c id || is_used s then Some (id, s) else None

pub entries_for-same : (d e : List (ℕ × Segment)) (c : List Common) (a n : ℕ) → ((id : ℕ) → a ≤ id → id < a + n → segment_in d id ≡ segment_in e id)
    → entries_for d c (range_with_len a n) ≡ entries_for e c (range_with_len a n)
unfolding entries_for
entries_for-same d e c a zero same = refl
entries_for-same d e c a (suc n) same =
    ap (λ s. cons_option (entry_by c a s) (entries_for d c (range_with_len (a + 1) n))) (same a (omega arith) (omega arith))
    ∙ ap (λ rest. cons_option (entry_by c a (segment_in e a)) rest) (entries_for-same d e c (a + 1) n (λ id low high. same id (omega arith) (omega arith)))

pub canonical_segments-same : (d e : List (ℕ × Segment)) (c : List Common) → ((id : ℕ) → 1 ≤ id → id < 256 → segment_in d id ≡ segment_in e id) → canonical_segments d c ≡ canonical_segments e c
unfolding listed_ids
canonical_segments-same d e c same = entries_for-same d e c 1 255 (λ id low high. same id low (omega arith))

pub one_form_twice : (e : List (ℕ × Segment)) (c : List Common) → canonical_segments e c ≡ canonical_segments (canonical_segments e c) c
one_form_twice e c = sym (canonical_segments-same (canonical_segments e c) e c (λ id low high. segment_in-canonical e c id low high))

-- ---- the ids that are listed exist

entries_exist : (c : List Common) (before e : List (ℕ × Segment)) → each_after (is_new_entry c) before e ≡ true → list_all (λ d. has_segment c d.0) e ≡ true
entries_exist c before [] all = refl
entries_exist c before (x ∷ xs) all =
    let parts = and_parts (is_new_entry c before x) (each_after (is_new_entry c) (before ++ x ∷ []) xs) all in
    let first = and_parts (has_segment c x.0) (not (list_any (λ d. d.0 == x.0) before)) parts.0 in
    rw first.0 (entries_exist c (before ++ x ∷ []) xs parts.1)

-- a segment that is used is one that is listed
used_exists : (c : List Common) (e : List (ℕ × Segment)) (id : ℕ) → list_all (λ d. has_segment c d.0) e ≡ true → is_used (segment_in e id) ≡ true → has_segment c id ≡ true
used_exists c [] id all used = absurd cc
used_exists c (x ∷ xs) id all used =
    let parts = and_parts (has_segment c x.0) (list_all (λ d. has_segment c d.0) xs) all in
    elim (eqb_tells x.0 id) [
      | inl is ↦ sym (ap (has_segment c) is.1) ∙ parts.0
      | inr off ↦ used_exists c xs id parts.1 (subst (λ (b : Bool). is_used (option_map_or (λ (d : ℕ × Segment). d.1) (if b then Some x else find (λ (d : ℕ × Segment). d.0 == id) xs) empty_segment) ≡ true) off.0 used)
    ]

all_cons : (p : ℕ × Segment → Bool) (b : Bool) (x : ℕ × Segment) (rest : List (ℕ × Segment)) → (b ≡ true → p x ≡ true) → list_all p rest ≡ true → list_all p (cons_option (if b then Some x else None) rest) ≡ true
all_cons p true x rest one others = rw (one refl) others
all_cons p false x rest one others = others

listed_exists : (c : List Common) (e : List (ℕ × Segment)) (ids : List ℕ) → list_all (λ d. has_segment c d.0) e ≡ true → list_all (λ d. has_segment c d.0) (entries_for e c ids) ≡ true
unfolding entries_for
listed_exists c e [] all = refl
listed_exists c e (i ∷ is) all =
    all_cons (λ d. has_segment c d.0) (has_common_id c i || is_used (segment_in e i)) (i, segment_in e i) (entries_for e c is)
    (λ listed. elim (or_cases (has_common_id c i) (is_used (segment_in e i)) listed) [
      | inl named ↦ or_right (is_fixed_id i) (has_common_id c i) named
      | inr used ↦ used_exists c e i all used
    ])
    (listed_exists c e is all)

-- ---- the rules stay

id_below : (before : List Common) (x : Common) (id : ℕ) → is_new_common before x ≡ true → x.id ≡ id → id < 256
id_below before x id ok is = omega (arith, leb-true x.id 254 (and_parts (nat_le 6 x.id) (nat_le x.id 254) (new_common before x ok).id).1)

common_below : (before c : List Common) (id : ℕ) → each_after is_new_common before c ≡ true → has_common_id c id ≡ true → id < 256
common_below before [] id all named = absurd cc
common_below before (x ∷ xs) id all named =
    let parts = and_parts (is_new_common before x) (each_after is_new_common (before ++ x ∷ []) xs) all in
    elim (eqb_tells x.id id) [
      | inl is ↦ id_below before x id parts.0 is.1
      | inr off ↦ common_below (before ++ x ∷ []) xs id parts.1 (subst (λ b. (b || has_common_id xs id) ≡ true) off.0 named)
    ]

fixed_below : (id : ℕ) → is_fixed_id id ≡ true → id < 256
fixed_below id fixed =
    elim (or_cases (nat_le id 4) (id == 255) fixed) [
      | inl low ↦ omega (arith, leb-true id 4 low)
      | inr high ↦ omega (arith, eqb-true id 255 high)
    ]

pub has_segment_below : (c : List Common) (id : ℕ) → each_after is_new_common [] c ≡ true → has_segment c id ≡ true → id < 256
has_segment_below c id all has =
    elim (or_cases (is_fixed_id id) (has_common_id c id) has) [
      | inl fixed ↦ fixed_below id fixed
      | inr named ↦ common_below [] c id all named
    ]

end_by : (b : Bool) (m n : ℕ) → (b ≡ false → m ≡ n) → (if b then 65536 else m) ≡ (if b then 65536 else n)
end_by true m n same = refl
end_by false m n same = same refl

not_zero : (id : ℕ) → (id == 0) ≡ false → 1 ≤ id
not_zero id e =
    elim (eqb_tells id 0) [
      | inl is ↦ absurd cc
      | inr off ↦ omega (arith, off.1)
    ]

end_of-canonical : (e : List (ℕ × Segment)) (c : List Common) (id : ℕ) → id < 256 → end_of (canonical_segments e c) id ≡ end_of e id
end_of-canonical e c id below =
    end_by (id == 0) (segment_in (canonical_segments e c) id).length (segment_in e id).length
    (λ off. ap (λ (s : Segment). s.length) (segment_in-canonical e c id (not_zero id off) below))

-- a record that is placed by one list is placed by its one form
abbrev placed_by : Bool → Bool → ContentValue → ℕ → Bool
placed_by has stack x end = has && not stack && nat_le (x.offset + length x.bytes) end && nat_le (length x.bytes) 65531

is_in_bounds-canonical : (e : List (ℕ × Segment)) (c : List Common) (x : ContentValue) → each_after is_new_common [] c ≡ true → is_in_bounds e c x ≡ true → is_in_bounds (canonical_segments e c) c x ≡ true
is_in_bounds-canonical e c x commons placed =
    ap (placed_by (has_segment c x.segment) (x.segment == 3) x) (end_of-canonical e c x.segment (has_segment_below c x.segment commons (in_bounds_parts e c x placed).has)) ∙ placed

contents-canonical : (e : List (ℕ × Segment)) (c : List Common) (externals : ℕ) (xs : List ContentValue) → each_after is_new_common [] c ≡ true
    → list_all (is_content e c externals) xs ≡ true → list_all (is_content (canonical_segments e c) c externals) xs ≡ true
contents-canonical e c externals [] commons all = refl
contents-canonical e c externals (x ∷ xs) commons all =
    let parts = and_parts (is_content e c externals x) (list_all (is_content e c externals) xs) all in
    let one = and_parts (is_in_bounds e c x) (each_after (is_fitting c externals x.offset (length x.bytes)) [] x.fixups) parts.0 in
    rw (is_in_bounds-canonical e c x commons one.0, one.1) (contents-canonical e c externals xs commons parts.1)

pub made_is_module : (p : ModuleValue) → IsTrue (keeps_rules p) → IsTrue (has_names p) → IsModule (made_of p)
made_is_module p kept names =
    let parts = and_parts (each_after (is_new_entry p.commons) [] p.segments) (is_sound p) kept in
    let r = sound_parts p parts.1 in
    record {
      sound = rw (r.commons, r.publics, contents-canonical p.segments p.commons (length p.externals) p.contents r.commons r.contents) r.start;
      own = listed_exists p.commons p.segments listed_ids (entries_exist p.commons [] p.segments parts.0);
      canonical = one_form_twice p.segments p.commons;
      names = names;
    }

-- ---- what a reader of segments gets of a module that is made of parts

pub segments_kept : (p : ModuleValue) (id : ℕ) → 1 ≤ id → id ≤ 255 → segment_of (made_of p) id ≡ segment_of p id
segments_kept p id low high =
    ap (λ (s : Segment). if has_segment p.commons id then Some s else None) (segment_in-canonical p.segments p.commons id low (omega (arith, high)))

none_listed : list_any (λ i. i == 0) listed_ids ≡ false
unfolding listed_ids
none_listed = refl

pub absolute_empty : (p : ModuleValue) → segment_of (made_of p) 0 ≡ Some empty_segment
absolute_empty p = ap (λ (s : Segment). Some s) (segment_in-entries_for p.segments p.commons 0 listed_ids ∙ ap (λ b. chosen b (segment_in p.segments 0)) none_listed)
