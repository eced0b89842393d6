-- Where the records of a module use nothing that isn't there, the parts that they say keep all rules.
use Rattle.std.proofs.Common.{◌≡◌, ℕ, ◌+◌, ◌≤◌, Bool, true, false, Option, Some, None, option_map, List, [], ◌∷◌, ◌++◌, length, map, refl, sym, ◌∙◌, arith, IsTrue}
use Rattle.std.specs.Prelude.{not, ◌==◌, nat_lt, nat_le, if◌then◌else◌}
use Rattle.std.specs.List.{list_all, list_any, flat_map}
use Rattle.std.specs.Option.{option_or, option_to_list}
use Rattle.std.proofs.lemmas.Bool.{and_parts, and_from, or_parts, or_from, not-true, not-false, ltb-false, le-leb, eqb-false, ne_eqb}
use Rattle.std.proofs.lemmas.List.Folds.{list_all-append, list_any-append}
use Rattle.omf_body.specs.declared.entries.SegmentEntry.{SegmentEntry}
use Rattle.omf_body.specs.declared.body.Place.{Place}
use Rattle.omf_body.specs.declared.body.ContentBody.{ContentBody}
use Rattle.omf_body.specs.declared.body.Body.{Body}
use Rattle.omf_body.specs.declared.body.Body.TheVariants.{Content, PublicDeclarations, ExternalReferences, Relocation, IntersegmentReferences}
use Rattle.omf_core.specs.Name.{is_name}
use Rattle.omf_body.specs.Entries.{is_paged}
use Rattle.omf_body.specs.Bodies.{body_bytes, are_distinct}
use Rattle.omf_model.specs.declared.segment.Segment.{Segment}
use Rattle.omf_model.specs.declared.symbols.Common.{Common}
use Rattle.omf_model.specs.declared.symbols.Public.{Public}
use Rattle.omf_model.specs.declared.fixup.Fixup.{Fixup}
use Rattle.omf_model.specs.declared.fixup.Target.{Target}
use Rattle.omf_model.specs.declared.fixup.Target.TheVariants as target
use Rattle.omf_module.specs.declared.fault.Cause.TheVariants.{SegmentUnknown, OffsetOutside, FixupOutside, FixupTwice, IndexUnknown}
use Rattle.omf_module.specs.declared.module_file.PlacedBody.{PlacedBody}
use Rattle.omf_model.specs.Contents.{ContentValue, is_inside, shares_a_byte}
use Rattle.omf_model.specs.Segments.{has_segment}
use Rattle.omf_model.specs.Modules.{ModuleValue}
use Rattle.omf_model.specs.Rules.{each_after, is_new_entry, is_new_common, has_target, is_fitting, end_of, is_in_bounds, has_fitting, is_content, is_start, keeps_rules}
use Rattle.omf_module.specs.Records.{SpellsBodies, commons_in, commons_of, stands_within, may_follow, each_follows, ModuleRecords, SpellsModuleRecords}
use Rattle.omf_module.specs.Gathered.{publics_in, fixups_in, with_fixups, content_after, begins_content, contents_from, parts_of}
use Rattle.omf_module.specs.Uses.{unknown_id, ids_in, place_fault, lacks_external, fixup_fault, fixups_fault, reference_fault, body_fault, fault_by, bodies_fault, header_fault, end_fault, use_fault}
use Rattle.omf_module.proofs.ListLemmas.{each_after_both}
use Rattle.omf_model.specs.SoundParts.{in_bounds_parts}

-- ---- options and tests

neither : {A : Type 0} (a b : Option A) → option_or a b ≡ None → (a ≡ None) × (b ≡ None)
neither None b e = (refl, e)
neither (Some x) b e = absurd cc

none_mapped : {A B : Type 0} (f : A → B) (o : Option A) → option_map f o ≡ None → o ≡ None
none_mapped f None e = refl
none_mapped f (Some x) e = absurd cc

-- a test that stops where it holds, and one that stops where it doesn't
pub passed : {A : Type 0} (b : Bool) (why : A) (o : Option A) → (if b then Some why else o) ≡ None → (b ≡ false) × (o ≡ None)
passed true why o e = absurd cc
passed false why o e = (refl, e)

passed_if : {A : Type 0} (b : Bool) (why : A) (o : Option A) → (if b then o else Some why) ≡ None → (b ≡ true) × (o ≡ None)
passed_if true why o e = (refl, e)
passed_if false why o e = absurd cc

other_back : (a b : ℕ) → (a == b) ≡ false → (b == a) ≡ false
other_back a b e = ne_eqb b a (λ s. eqb-false a b e (sym s))

-- ---- lists

all_both : {A : Type 0} (p : A → Bool) (xs ys : List A) → list_all p xs ≡ true → list_all p ys ≡ true
    → list_all p (xs ++ ys) ≡ true
all_both p xs ys a b = list_all-append p xs ys ∙ and_from (list_all p xs) (list_all p ys) a b

all_mapped : {A B : Type 0} (p : B → Bool) (f : A → B) (xs : List A) → ((x : A) → p (f x) ≡ true) → list_all p (map f xs) ≡ true
all_mapped p f [] each = refl
all_mapped p f (x ∷ xs) each = and_from (p (f x)) (list_all p (map f xs)) (each x) (all_mapped p f xs each)

-- ---- ids

pub all_known : (m : ModuleValue) (ids : List ℕ) → unknown_id m ids ≡ None → list_all (has_segment m.commons) ids ≡ true
all_known m [] e = refl
all_known m (id ∷ ids) e =
    let first = passed_if (has_segment m.commons id) (SegmentUnknown id) (unknown_id m ids) e in
    and_from (has_segment m.commons id) (list_all (has_segment m.commons) ids) first.0 (all_known m ids first.1)

pub one_known : (m : ModuleValue) (id : ℕ) → unknown_id m (id ∷ []) ≡ None → has_segment m.commons id ≡ true
one_known m id e = (passed_if (has_segment m.commons id) (SegmentUnknown id) None e).0

-- ---- segments

abbrev pub entry_of : SegmentEntry → ℕ × Segment
entry_of e = (e.id, record { length = e.length; paged = is_paged e })

abbrev has_id : ℕ → ℕ × Segment → Bool
has_id id d = d.0 == id

-- the ids of the entries are none of those before
abbrev are_apart : List (ℕ × Segment) → List SegmentEntry → Bool
are_apart before es = list_all (λ e. not (list_any (has_id e.id) before)) es

apart_one : (before : List (ℕ × Segment)) (e x : SegmentEntry) → list_any (has_id x.id) before ≡ false → (x.id == e.id) ≡ false
    → list_any (has_id x.id) (before ++ entry_of e ∷ []) ≡ false
apart_one before e x none other =
    list_any-append (has_id x.id) before (entry_of e ∷ [])
    ∙ or_from (list_any (has_id x.id) before) (list_any (has_id x.id) (entry_of e ∷ [])) none
    (or_from (e.id == x.id) false (other_back x.id e.id other) refl)

apart_push : (before : List (ℕ × Segment)) (e : SegmentEntry) (es : List SegmentEntry) → are_apart before es ≡ true
    → list_any (λ d. d.id == e.id) es ≡ false → are_apart (before ++ entry_of e ∷ []) es ≡ true
apart_push before e [] apart new = refl
apart_push before e (x ∷ es) apart new =
    let parts = and_parts (not (list_any (has_id x.id) before)) (are_apart before es) apart in
    let other = or_parts (x.id == e.id) (list_any (λ d. d.id == e.id) es) new in
    rw (apart_one before e x (not-true (list_any (has_id x.id) before) parts.0) other.0) (apart_push before e es parts.1 other.1)

entries_new : (commons : List Common) (before : List (ℕ × Segment)) (es : List SegmentEntry)
    → list_all (has_segment commons) (map (λ e. e.id) es) ≡ true → are_distinct es ≡ true → are_apart before es ≡ true
    → each_after (is_new_entry commons) before (map entry_of es) ≡ true
entries_new commons before [] known distinct apart = refl
entries_new commons before (e ∷ es) known distinct apart =
    let k = and_parts (has_segment commons e.id) (list_all (has_segment commons) (map (λ e. e.id) es)) known in
    let d = and_parts (not (list_any (λ d. d.id == e.id) es)) (are_distinct es) distinct in
    let a = and_parts (not (list_any (has_id e.id) before)) (are_apart before es) apart in
    rw (k.0, a.0) (entries_new commons (before ++ entry_of e ∷ []) es k.1 d.1
    (apart_push before e es a.1 (not-true (list_any (λ d. d.id == e.id) es) d.0)))

none_before : (es : List SegmentEntry) → are_apart [] es ≡ true
none_before [] = refl
none_before (e ∷ es) = none_before es

-- ---- commons

commons_new : (commons : List Common) (ps : List PlacedBody) → each_follows commons ps ≡ true
    → each_after is_new_common commons (commons_of ps) ≡ true
commons_new commons [] e = refl
commons_new commons (p ∷ ps) e =
    let parts = and_parts (may_follow commons p.body) (each_follows (commons ++ commons_in p.body) ps) e in
    let here = and_parts (stands_within p.body) (each_after is_new_common commons (commons_in p.body)) parts.0 in
    each_after_both is_new_common commons (commons_in p.body) (commons_of ps) here.1
    (commons_new (commons ++ commons_in p.body) ps parts.1)

-- ---- publics

-- what a record without fault shows: its ids are known, its place is good, and its references are
pub record Sound (m : ModuleValue) (nearest : Option ContentValue) (body : Body) : Type 0 where
  pub known : unknown_id m (ids_in body) ≡ None
  pub place : place_fault m body ≡ None
  pub references : reference_fault m nearest body ≡ None

body_sound : (m : ModuleValue) (nearest : Option ContentValue) (body : Body) → body_fault m nearest body ≡ None
    → Sound m nearest body
body_sound m nearest body e =
    let a = neither (unknown_id m (ids_in body)) (option_or (place_fault m body) (reference_fault m nearest body)) e in
    let b = neither (place_fault m body) (reference_fault m nearest body) a.1 in
    record { known = a.0; place = b.0; references = b.1 }

pub first_sound : (m : ModuleValue) (nearest : Option ContentValue) (p : PlacedBody) (ps : List PlacedBody)
    → bodies_fault m nearest (p ∷ ps) ≡ None
    → Sound m nearest p.body × (bodies_fault m (content_after nearest p.body) ps ≡ None)
first_sound m nearest p ps e =
    let a = neither (option_map (fault_by p.at) (body_fault m nearest p.body))
    (bodies_fault m (content_after nearest p.body) ps) e in
    (body_sound m nearest p.body (none_mapped (fault_by p.at) (body_fault m nearest p.body) a.0), a.1)

abbrev is_public : List Common → Public → Bool
is_public commons p = has_segment commons p.segment

publics_there : (m : ModuleValue) (b : Body) → unknown_id m (ids_in b) ≡ None
    → list_all (is_public m.commons) (publics_in b) ≡ true
publics_there m (PublicDeclarations b) e =
    all_mapped (is_public m.commons) (λ p. record { name = p.name; segment = b.segment; offset = p.offset }) b.publics
    (λ p. one_known m b.segment e)
publics_there m _ e = refl

publics_keep : (m : ModuleValue) (nearest : Option ContentValue) (ps : List PlacedBody) → bodies_fault m nearest ps ≡ None
    → list_all (is_public m.commons) (flat_map (λ p. publics_in p.body) ps) ≡ true
publics_keep m nearest [] e = refl
publics_keep m nearest (p ∷ ps) e =
    let s = first_sound m nearest p ps e in
    all_both (is_public m.commons) (publics_in p.body) (flat_map (λ p. publics_in p.body) ps) (publics_there m p.body s.0.known)
    (publics_keep m (content_after nearest p.body) ps s.1)

-- ---- fixups

-- a segment that a fixup is to is there
abbrev is_to_segment_there : List Common → Target → Bool
is_to_segment_there commons (target.Segment id) = has_segment commons id
is_to_segment_there commons (target.External index) = true

abbrev is_reaching : List Common → Fixup → Bool
is_reaching commons f = is_to_segment_there commons f.target

references_reach : (m : ModuleValue) (own : ℕ) (b : Body) → has_segment m.commons own ≡ true → unknown_id m (ids_in b) ≡ None
    → list_all (is_reaching m.commons) (fixups_in own b) ≡ true
references_reach m own (ExternalReferences b) has e =
    all_mapped (is_reaching m.commons)
    (λ r. record { offset = r.offset; field = b.field; target = target.External r.index }) b.references (λ r. refl)
references_reach m own (Relocation b) has e =
    all_mapped (is_reaching m.commons)
    (λ r. record { offset = r.offset; field = b.field; target = target.Segment own }) b.references (λ r. has)
references_reach m own (IntersegmentReferences b) has e =
    all_mapped (is_reaching m.commons)
    (λ r. record { offset = r.offset; field = b.field; target = target.Segment b.segment }) b.references
    (λ r. one_known m b.segment e)
references_reach m own _ has e = refl

target_there : (m : ModuleValue) (t : Target) → is_to_segment_there m.commons t ≡ true → lacks_external m t ≡ false
    → has_target m.commons (length m.externals) t ≡ true
target_there m (target.Segment id) reaches there = reaches
target_there m (target.External index) reaches there = not-false (nat_lt index (length m.externals)) there

one_fitting : (m : ModuleValue) (c : ContentValue) (f : Fixup) → is_reaching m.commons f ≡ true → fixup_fault m c f ≡ None
    → is_fitting m.commons (length m.externals) c.offset (length c.bytes) c.fixups f ≡ true
one_fitting m c f reaches e =
    let inside = passed (not (is_inside c.offset (length c.bytes) f)) FixupOutside (if shares_a_byte c.fixups f
    then Some FixupTwice else (if lacks_external m f.target then Some IndexUnknown else None)) e in
    let apart = passed (shares_a_byte c.fixups f) FixupTwice (if lacks_external m f.target then Some IndexUnknown
    else None) inside.1 in
    let there = passed (lacks_external m f.target) IndexUnknown None apart.1 in
    rw (not-false (is_inside c.offset (length c.bytes) f) inside.0, apart.0) (target_there m f.target reaches there.0)

abbrev pub fitting : ModuleValue → ContentValue → List Fixup → Fixup → Bool
fitting m c = is_fitting m.commons (length m.externals) c.offset (length c.bytes)

each_fitting : (m : ModuleValue) (c : ContentValue) (fs : List Fixup) → list_all (is_reaching m.commons) fs ≡ true
    → fixups_fault m c fs ≡ None → each_after (fitting m c) c.fixups fs ≡ true
each_fitting m c [] reach e = refl
each_fitting m c (f ∷ fs) reach e =
    let r = and_parts (is_reaching m.commons f) (list_all (is_reaching m.commons) fs) reach in
    let a = neither (fixup_fault m c f) (fixups_fault m (with_fixups c (f ∷ [])) fs) e in
    rw (one_fitting m c f r.0 a.0) (each_fitting m (with_fixups c (f ∷ [])) fs r.1 a.1)

-- ---- contents

abbrev pub fits : ModuleValue → ContentValue → Bool
fits m c = is_content m.segments m.commons (length m.externals) c

fits_with : (m : ModuleValue) (c : ContentValue) (fs : List Fixup) → fits m c ≡ true → list_all (is_reaching m.commons) fs ≡ true
    → fixups_fault m c fs ≡ None → fits m (with_fixups c fs) ≡ true
fits_with m c fs fit reach e =
    let parts = and_parts (is_in_bounds m.segments m.commons c) (has_fitting m.commons (length m.externals) c) fit in
    rw parts.0 (each_after_both (fitting m c) [] c.fixups fs parts.1 (each_fitting m c fs reach e))

abbrev content_of : ContentBody → ContentValue
content_of b = record { segment = b.segment; offset = b.offset; bytes = b.bytes; fixups = [] }

content_short : (b : ContentBody) → length (body_bytes (Content b)) ≤ 65534 → nat_le (length b.bytes) 65531 ≡ true
content_short b fit = le-leb (length b.bytes) 65531 (omega arith)

content_fits : (m : ModuleValue) (b : ContentBody) → length (body_bytes (Content b)) ≤ 65534
    → unknown_id m (b.segment ∷ []) ≡ None → place_fault m (Content b) ≡ None → fits m (content_of b) ≡ true
content_fits m b size known e =
    let stack = passed (b.segment == 3) (SegmentUnknown 3) (if nat_lt (end_of m.segments b.segment) (b.offset + length b.bytes)
    then Some OffsetOutside else None) e in
    let outside = passed (nat_lt (end_of m.segments b.segment) (b.offset + length b.bytes)) OffsetOutside None stack.1 in
    let within : b.offset + length b.bytes ≤ end_of m.segments b.segment =
    ltb-false (end_of m.segments b.segment) (b.offset + length b.bytes) outside.0 in
    rw (
      one_known m b.segment known,
      stack.0,
      le-leb (b.offset + length b.bytes)
          (end_of m.segments b.segment) within,
      content_short b size,
    )

abbrev pub all_fit : ModuleValue → Option ContentValue → Type 0
all_fit m nearest = list_all (fits m) (option_to_list nearest) ≡ true

abbrev with_references : Body → Option ContentValue → Option ContentValue
with_references b nearest = option_map (λ c. with_fixups c (fixups_in c.segment b)) nearest

references_fit : (m : ModuleValue) (nearest : Option ContentValue) (b : Body) → Sound m nearest b → all_fit m nearest
    → all_fit m (with_references b nearest)
references_fit m None b s fit = refl
references_fit m (Some c) b s fit =
    let one = and_parts (fits m c) true fit in
    let placed = and_parts (is_in_bounds m.segments m.commons c) (has_fitting m.commons (length m.externals) c) one.0 in
    rw (fits_with m c (fixups_in c.segment b) one.0
    (references_reach m c.segment b (in_bounds_parts m.segments m.commons c placed.0).has s.known) s.references)

after_fits : (m : ModuleValue) (nearest : Option ContentValue) (b : Body) → length (body_bytes b) ≤ 65534 → Sound m nearest b
    → all_fit m nearest → all_fit m (content_after nearest b)
after_fits m nearest (Content b) size s fit = rw (content_fits m b size s.known s.place)
after_fits m nearest b size s fit = references_fit m nearest b s fit

all_if : {A : Type 0} (p : A → Bool) (b : Bool) (xs : List A) → list_all p xs ≡ true → list_all p (if b then xs else []) ≡ true
all_if p true xs e = e
all_if p false xs e = refl

contents_keep : (bytes : List ℕ) (from to : ℕ) (m : ModuleValue) (nearest : Option ContentValue) (ps : List PlacedBody)
    → SpellsBodies bytes from to ps → bodies_fault m nearest ps ≡ None → all_fit m nearest
    → list_all (fits m) (contents_from nearest ps) ≡ true
contents_keep bytes from to m nearest [] s e fit = fit
contents_keep bytes from to m nearest (p ∷ ps) s e fit =
    let here = first_sound m nearest p ps e in
    all_both (fits m) (if begins_content p.body then option_to_list nearest else [])
    (contents_from (content_after nearest p.body) ps)
    (all_if (fits m) (begins_content p.body) (option_to_list nearest) fit)
    (contents_keep bytes s.1.0 to m (content_after nearest p.body) ps s.1.2 here.1
    (after_fits m nearest p.body s.1.1.fits here.0 fit))

-- ---- the start

start_there : (m : ModuleValue) (start : Option Place)
    → unknown_id m (option_to_list (option_map (λ place. place.segment) start)) ≡ None
    → is_start m.commons (option_map (λ place. (place.segment, place.offset)) start) ≡ true
start_there m None e = refl
start_there m (Some place) e = one_known m place.segment e

-- ---- all rules

pub each_without : (r : ModuleRecords) → use_fault r ≡ None
    → (header_fault (parts_of r) r ≡ None)
    × ((bodies_fault (parts_of r) None r.within ≡ None) × (end_fault (parts_of r) r ≡ None))
each_without r e =
    let m : ModuleValue = parts_of r in
    let others = neither (header_fault m r) (option_or (bodies_fault m None r.within) (end_fault m r)) e in
    (others.0, neither (bodies_fault m None r.within) (end_fault m r) others.1)

pub keeps : (bytes : List ℕ) (after : ℕ) (r : ModuleRecords) → SpellsModuleRecords bytes after r → use_fault r ≡ None
    → IsTrue (keeps_rules (parts_of r))
keeps bytes after r s e =
    let m : ModuleValue = parts_of r in
    let none = each_without r e in
    let listed = all_known m (map (λ e. e.id) r.header.segments)
    (none_mapped (fault_by r.at) (unknown_id m (map (λ e. e.id) r.header.segments)) none.0) in
    let distinct = and_parts (is_name r.header.name) (are_distinct r.header.segments) s.header.sound in
    let ids = option_to_list (option_map (λ place. place.segment) r.end.start) in
    rw (
      entries_new m.commons [] r.header.segments listed distinct.1
          (none_before r.header.segments),
      commons_new [] r.within s.follow,
      publics_keep m None r.within none.1.0,
    )
    (rw (contents_keep bytes s.first r.end_at m None r.within s.within none.1.0 refl)
    (start_there m r.end.start (none_mapped (fault_by r.end_at) (unknown_id m ids) none.1.1)))
