-- Each record that is written of a sound module can be written and is read again.
use Rattle.std.proofs.Common.{◌≡◌, ℕ, zero, suc, ◌+◌, ◌*◌, ◌≤◌, ◌<◌, Bool, true, false, ◌&&◌, ◌||◌, List, [], ◌∷◌, ◌++◌, length, map, Option, Some, None, refl, sym, subst, arith, inl, inr}
use Rattle.std.specs.Prelude.{◌==◌, nat_le, if◌then◌else◌}
use Rattle.std.specs.List.{flat_map, list_all, list_any, range_with_len, cons_option}
use Rattle.std.proofs.lemmas.Bool.{and_parts, and_from, leb-true}
use Rattle.std.proofs.lemmas.Bool.Decides.{eqb_tells}
use Rattle.std.proofs.lemmas.List.{length-append}
use Rattle.omf_core.specs.Name.{is_name, is_name_byte, name_spelling}
use Rattle.omf_core.specs.SegmentId.{is_common_id}
use Rattle.omf_body.specs.declared.field.Field.{Field}
use Rattle.omf_body.specs.declared.body.Body.TheVariants.{ModuleHeader, ModuleEnd, ExternalReferences, Relocation, IntersegmentReferences}
use Rattle.omf_body.specs.Entries.{segment_bytes}
use Rattle.omf_body.specs.Bodies.{are_distinct, body_bytes}
use Rattle.omf_model.specs.declared.segment.Segment.{Segment}
use Rattle.omf_model.specs.declared.symbols.Common.{Common}
use Rattle.omf_model.specs.declared.symbols.Public.{Public}
use Rattle.omf_model.specs.Contents.{ContentValue}
use Rattle.omf_model.specs.Segments.{has_common_id, is_used, segment_in, entries_for, listed_ids, canonical_segments}
use Rattle.omf_model.specs.Modules.{ModuleValue}
use Rattle.omf_module.specs.Writing.{segment_entry, header_body, common_body, public_body, external_body, content_body, end_body}
use Rattle.omf_model.specs.FewSegments.{canonical_few}
use Rattle.omf_module.proofs.WrittenSpelled.{Fits}

pub chosen_by : {A : Type 0} (P : A → Type 0) (b : Bool) (x y : A) → (b ≡ true → P x) → P y → P (if b then x else y)
chosen_by P true x y own other = own refl
chosen_by P false x y own other = other

-- ---- the header

off_at : (id a : ℕ) → id < a → (a == id) ≡ false
off_at id a below =
    elim (eqb_tells a id) [
      | inl is ↦ absurd (omega (arith, is.1))
      | inr off ↦ off.0
    ]

none_with : (listed : Bool) (id a : ℕ) (s : Segment) (rest : List (ℕ × Segment)) → id < a
    → list_any (λ d. d.id == id) (map segment_entry rest) ≡ false
    → list_any (λ d. d.id == id) (map segment_entry (cons_option (if listed then Some (a, s) else None) rest)) ≡ false
none_with true id a s rest below none = rw (off_at id a below) none
none_with false id a s rest below none = none

distinct_with : (listed : Bool) (a : ℕ) (s : Segment) (rest : List (ℕ × Segment))
    → list_any (λ d. d.id == a) (map segment_entry rest) ≡ false → are_distinct (map segment_entry rest) ≡ true
    → are_distinct (map segment_entry (cons_option (if listed then Some (a, s) else None) rest)) ≡ true
distinct_with true a s rest none others = rw none others
distinct_with false a s rest none others = others

-- ids below those that may be listed aren't
none_below : (e : List (ℕ × Segment)) (c : List Common) (id a n : ℕ) → id < a
    → list_any (λ d. d.id == id) (map segment_entry (entries_for e c (range_with_len a n))) ≡ false
unfolding entries_for
none_below e c id a zero below = refl
none_below e c id a (suc n) below =
    none_with (has_common_id c a || is_used (segment_in e a)) id a (segment_in e a)
    (entries_for e c (range_with_len (a + 1) n)) below (none_below e c id (a + 1) n (omega arith))

distinct_from : (e : List (ℕ × Segment)) (c : List Common) (a n : ℕ)
    → are_distinct (map segment_entry (entries_for e c (range_with_len a n))) ≡ true
unfolding entries_for
distinct_from e c a zero = refl
distinct_from e c a (suc n) =
    distinct_with (has_common_id c a || is_used (segment_in e a)) a (segment_in e a) (entries_for e c (range_with_len (a + 1) n))
    (none_below e c a (a + 1) n (omega arith)) (distinct_from e c (a + 1) n)

one_form_distinct : (e : List (ℕ × Segment)) (c : List Common) → are_distinct (map segment_entry (canonical_segments e c)) ≡ true
unfolding listed_ids
one_form_distinct e c = distinct_from e c 1 255

segments_length : (segments : List (ℕ × Segment))
    → length (flat_map segment_bytes (map segment_entry segments)) ≡ 4 * length segments
segments_length [] = refl
segments_length (s ∷ ss) = omega (arith, segments_length ss)

name_short : (name : List ℕ) → is_name name ≡ true → length name ≤ 255
name_short name is =
    let p = and_parts (nat_le 1 (length name) && nat_le (length name) 255) (list_all is_name_byte name) is in
    leb-true (length name) 255 (and_parts (nat_le 1 (length name)) (nat_le (length name) 255) p.0).1

pub header_short : (name : List ℕ) (segments : List (ℕ × Segment)) → is_name name ≡ true → length segments ≤ 255
    → length (name_spelling name ++ 0 ∷ 0 ∷ flat_map segment_bytes (map segment_entry segments)) ≤ 65534
header_short name segments is few =
    omega (
      arith,
      few,
      name_short name is,
      segments_length segments,
      length-append (name_spelling name)
          (0 ∷ 0 ∷ flat_map segment_bytes (map segment_entry segments)),
    )

pub header_fits : (m : ModuleValue) → m.segments ≡ canonical_segments m.segments m.commons → is_name m.name ≡ true
    → Fits (ModuleHeader (header_body m))
header_fits m form name =
    let few : length m.segments ≤ 255 =
    subst (λ (ss : List (ℕ × Segment)). length ss ≤ 255) (sym form) (canonical_few m.segments m.commons) in
    record {
      sound = and_from (is_name m.name) (are_distinct (map segment_entry m.segments)) name
          (subst (λ (ss : List (ℕ × Segment)). are_distinct (map segment_entry ss) ≡ true) (sym form)
          (one_form_distinct m.segments m.commons));
      short = header_short m.name m.segments name few;
    }

-- ---- one record

pub common_short : (c : Common) → is_name c.name ≡ true → length (body_bytes (common_body c)) ≤ 65534
common_short c name = omega (arith, name_short c.name name, length-append (c.id ∷ name_spelling c.name) [])

pub common_fits : (c : Common) → is_common_id c.id ≡ true → is_name c.name ≡ true → Fits (common_body c)
common_fits c id name = record {
  sound = and_from (is_common_id c.id && is_name c.name) true (and_from (is_common_id c.id) (is_name c.name) id name) refl;
  short = common_short c name;
}

pub public_fits : (p : Public) → is_name p.name ≡ true → Fits (public_body p)
public_fits p name = record {
  sound = and_from (is_name p.name) true name refl;
  short = omega (arith, name_short p.name name, length-append p.name (0 ∷ []), length-append (p.name ++ 0 ∷ []) []);
}

pub external_fits : (name : List ℕ) → is_name name ≡ true → Fits (external_body name)
external_fits name is = record {
  sound = and_from (is_name name) true is refl;
  short = omega (arith, name_short name is, length-append name (0 ∷ []), length-append (name ++ 0 ∷ []) []);
}

pub own_fits : (field : Field) (offset : ℕ)
    → Fits (Relocation (record { field = field; references = record { offset = offset } ∷ [] }))
own_fits field offset = record { sound = refl; short = omega arith }

pub other_fits : (id : ℕ) (field : Field) (offset : ℕ)
    → Fits (IntersegmentReferences (record { segment = id; field = field; references = record { offset = offset } ∷ [] }))
other_fits id field offset = record { sound = refl; short = omega arith }

pub external_reference_fits : (index : ℕ) (field : Field) (offset : ℕ)
    → Fits (ExternalReferences (record { field = field; references = record { index = index; offset = offset } ∷ [] }))
external_reference_fits index field offset = record { sound = refl; short = omega arith }

pub content_fits : (c : ContentValue) → length c.bytes ≤ 65531 → Fits (content_body c)
content_fits c short = record { sound = refl; short = omega arith }

pub end_fits : (start : Option (ℕ × ℕ)) → Fits (ModuleEnd (end_body start))
end_fits None = record { sound = refl; short = omega arith }
end_fits (Some start) = record { sound = refl; short = omega arith }
