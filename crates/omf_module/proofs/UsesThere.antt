-- Records have no fault of use exactly where what they use is there.
use Rattle.std.proofs.Common.{◌≡◌, ℕ, ◌+◌, Bool, true, false, ◌&&◌, ◌||◌, Option, Some, None, option_map, is_some, List, [], ◌∷◌, ◌++◌, length, map, refl, sym, ap, ◌∙◌, subst}
use Rattle.std.specs.Prelude.{not, ◌==◌, if◌then◌else◌}
use Rattle.std.specs.List.{list_all, list_any}
use Rattle.std.specs.Option.{option_to_list}
use Rattle.std.proofs.lemmas.Bool.{and_parts, not-true, not_from_false, le-ltb}
use Rattle.std.proofs.lemmas.List.Folds.{list_all-append, list_any-append}
use Rattle.omf_body.specs.declared.entries.SegmentEntry.{SegmentEntry}
use Rattle.omf_body.specs.declared.body.Place.{Place}
use Rattle.omf_body.specs.declared.body.Body.{Body}
use Rattle.omf_body.specs.declared.body.Body.TheVariants.{Content}
use Rattle.omf_model.specs.declared.segment.Segment.{Segment}
use Rattle.omf_model.specs.declared.symbols.Common.{Common}
use Rattle.omf_model.specs.declared.fixup.Fixup.{Fixup}
use Rattle.omf_model.specs.declared.fixup.Target.{Target}
use Rattle.omf_model.specs.declared.fixup.Target.TheVariants as target
use Rattle.omf_module.specs.declared.fault.Cause.TheVariants.{FixupBeforeContent}
use Rattle.omf_module.specs.declared.module_file.PlacedBody.{PlacedBody}
use Rattle.omf_model.specs.Contents.{ContentValue, is_inside, shares_a_byte}
use Rattle.omf_model.specs.Segments.{has_segment}
use Rattle.omf_model.specs.Modules.{ModuleValue}
use Rattle.omf_model.specs.Rules.{each_after, is_new_entry, has_target, end_of, is_in_bounds, has_fitting, is_start, is_sound}
use Rattle.omf_module.specs.Records.{ModuleRecords}
use Rattle.omf_module.specs.Gathered.{fixups_in, with_fixups, content_after, begins_content, contents_from, parts_of}
use Rattle.omf_module.specs.Uses.{unknown_id, ids_in, place_fault, lacks_external, fixup_fault, fixups_fault, is_reference, reference_fault, body_fault, bodies_fault, use_fault}
use Rattle.omf_module.specs.UseLaws.{has_its_segments, is_after_content, UsesAreThere, NoFaultExactlyWhereUsesAreThere}
use Rattle.omf_module.proofs.ListLemmas.{each_after_parts}
use Rattle.omf_model.specs.SoundParts.{in_bounds_parts, sound_parts}
use Rattle.omf_module.proofs.UseLemmas.{fault_later}
use Rattle.omf_module.proofs.KeepsLemmas.{passed, all_known, first_sound, entry_of, fitting, fits, all_fit, keeps, each_without}

-- ---- where there is no fault

segments_known : (m : ModuleValue) (nearest : Option ContentValue) (ps : List PlacedBody) → bodies_fault m nearest ps ≡ None
    → list_all (has_its_segments m.commons) ps ≡ true
segments_known m nearest [] e = refl
segments_known m nearest (p ∷ ps) e =
    let s = first_sound m nearest p ps e in
    rw (all_known m (ids_in p.body) s.0.known) (segments_known m (content_after nearest p.body) ps s.1)

-- there is a nearest content where a content came before
abbrev begin_content : List PlacedBody → Bool
begin_content before = list_any (λ q. begins_content q.body) before

one_more : (nearest : Option ContentValue) (b : Body)
    → is_some (content_after nearest b) ≡ (is_some nearest || (begins_content b || false))
one_more None (Content b) = refl
one_more None b = refl
one_more (Some c) (Content b) = refl
one_more (Some c) b = refl

more : (nearest : Option ContentValue) (before : List PlacedBody) (p : PlacedBody) → is_some nearest ≡ begin_content before
    → is_some (content_after nearest p.body) ≡ begin_content (before ++ p ∷ [])
more nearest before p same = one_more nearest p.body
    ∙ (ap (λ (b : Bool). b || (begins_content p.body || false)) same
    ∙ sym (list_any-append (λ q. begins_content q.body) before (p ∷ [])))

comes_after : (m : ModuleValue) (nearest : Option ContentValue) (b : Body) → reference_fault m nearest b ≡ None
    → (is_some nearest || not (is_reference b)) ≡ true
comes_after m None b e = not_from_false (is_reference b) (passed (is_reference b) FixupBeforeContent None e).0
comes_after m (Some c) b e = refl

all_come_after : (m : ModuleValue) (nearest : Option ContentValue) (before ps : List PlacedBody)
    → is_some nearest ≡ begin_content before → bodies_fault m nearest ps ≡ None → each_after is_after_content before ps ≡ true
all_come_after m nearest before [] same e = refl
all_come_after m nearest before (p ∷ ps) same e =
    let s = first_sound m nearest p ps e in
    rw (sym same, comes_after m nearest p.body s.0.references)
    (all_come_after m (content_after nearest p.body) (before ++ p ∷ []) ps (more nearest before p same) s.1)

-- ---- where all is there

pub none_unknown : (m : ModuleValue) (ids : List ℕ) → list_all (has_segment m.commons) ids ≡ true → unknown_id m ids ≡ None
none_unknown m [] e = refl
none_unknown m (id ∷ ids) e =
    let p = and_parts (has_segment m.commons id) (list_all (has_segment m.commons) ids) e in
    rw p.0 (none_unknown m ids p.1)

lacks_none : (m : ModuleValue) (to : Target) → has_target m.commons (length m.externals) to ≡ true → lacks_external m to ≡ false
lacks_none m (target.Segment id) has = refl
lacks_none m (target.External index) has = ap not has

fixup_fits : (m : ModuleValue) (c : ContentValue) (f : Fixup) → fitting m c c.fixups f ≡ true → fixup_fault m c f ≡ None
fixup_fits m c f fit =
    let p = and_parts (is_inside c.offset (length c.bytes) f && not (shares_a_byte c.fixups f))
    (has_target m.commons (length m.externals) f.target) fit in
    let q = and_parts (is_inside c.offset (length c.bytes) f) (not (shares_a_byte c.fixups f)) p.0 in
    rw (q.0, not-true (shares_a_byte c.fixups f) q.1, lacks_none m f.target p.1)

pub fixups_fit : (m : ModuleValue) (c : ContentValue) (fs : List Fixup) → each_after (fitting m c) c.fixups fs ≡ true
    → fixups_fault m c fs ≡ None
fixups_fit m c [] e = refl
fixups_fit m c (f ∷ fs) e =
    let p = and_parts (fitting m c c.fixups f) (each_after (fitting m c) (c.fixups ++ f ∷ []) fs) e in
    rw (fixup_fits m c f p.0) (fixups_fit m (with_fixups c (f ∷ [])) fs p.1)

-- a content that fits with more fixups fits without them, and they do
fit_apart : (m : ModuleValue) (c : ContentValue) (fs : List Fixup) → fits m (with_fixups c fs) ≡ true
    → (fits m c ≡ true) × (fixups_fault m c fs ≡ None)
fit_apart m c fs fit =
    let p = and_parts (is_in_bounds m.segments m.commons c) (has_fitting m.commons (length m.externals) (with_fixups c fs)) fit in
    let q = each_after_parts (fitting m c) [] c.fixups fs p.1 in
    (rw (p.0, q.0), fixups_fit m c fs q.1)

before_fits : (m : ModuleValue) (nearest : Option ContentValue) (b : Body)
    → list_all (fits m) (if begins_content b then option_to_list nearest else []) ≡ true → all_fit m (content_after nearest b)
    → all_fit m nearest
before_fits m nearest (Content b) here after = here
before_fits m None b here after = refl
before_fits m (Some c) b here after =
    rw (fit_apart m c (fixups_in c.segment b) (and_parts (fits m (with_fixups c (fixups_in c.segment b))) true after).0).0

nearest_fits : (m : ModuleValue) (nearest : Option ContentValue) (ps : List PlacedBody)
    → list_all (fits m) (contents_from nearest ps) ≡ true → all_fit m nearest
nearest_fits m nearest [] e = e
nearest_fits m nearest (p ∷ ps) e =
    let parts = and_parts _ _ (rw list_all-append at e) in
    before_fits m nearest p.body parts.0 (nearest_fits m (content_after nearest p.body) ps parts.1)

place_fits : (m : ModuleValue) (nearest : Option ContentValue) (b : Body) → all_fit m (content_after nearest b)
    → place_fault m b ≡ None
place_fits m nearest (Content b) fit =
    let c : ContentValue = record { segment = b.segment; offset = b.offset; bytes = b.bytes; fixups = [] } in
    let one = and_parts (is_in_bounds m.segments m.commons c) true (and_parts (fits m c) true fit).0 in
    let p = in_bounds_parts m.segments m.commons c one.0 in
    rw (p.not_stack, le-ltb (end_of m.segments b.segment) (b.offset + length b.bytes) p.within)
place_fits m nearest b fit = refl

references_fit : (m : ModuleValue) (nearest : Option ContentValue) (b : Body) → (is_some nearest || not (is_reference b)) ≡ true
    → all_fit m (content_after nearest b) → reference_fault m nearest b ≡ None
references_fit m None b after fit = rw (not-true (is_reference b) after)
references_fit m (Some c) (Content b) after fit = refl
references_fit m (Some c) b after fit =
    (fit_apart m c (fixups_in c.segment b) (and_parts (fits m (with_fixups c (fixups_in c.segment b))) true fit).0).1

pub body_fits : (m : ModuleValue) (nearest : Option ContentValue) (b : Body) → list_all (has_segment m.commons) (ids_in b) ≡ true
    → (is_some nearest || not (is_reference b)) ≡ true
    → all_fit m (content_after nearest b) → body_fault m nearest b ≡ None
body_fits m nearest b known after fit =
    rw (none_unknown m (ids_in b) known, place_fits m nearest b fit) (references_fit m nearest b after fit)

bodies_fit : (m : ModuleValue) (nearest : Option ContentValue) (before ps : List PlacedBody)
    → is_some nearest ≡ begin_content before → list_all (has_its_segments m.commons) ps ≡ true
    → each_after is_after_content before ps ≡ true → list_all (fits m) (contents_from nearest ps) ≡ true
    → bodies_fault m nearest ps ≡ None
bodies_fit m nearest before [] same known after fit = refl
bodies_fit m nearest before (p ∷ ps) same known after fit =
    let k = and_parts (has_its_segments m.commons p) (list_all (has_its_segments m.commons) ps) known in
    let a = and_parts (is_after_content before p) (each_after is_after_content (before ++ p ∷ []) ps) after in
    let rest = (and_parts _ _ (rw list_all-append at fit)).1 in
    let one = body_fits m nearest p.body k.0 (subst (λ (b : Bool). (b || not (is_reference p.body)) ≡ true) (sym same) a.0)
    (nearest_fits m (content_after nearest p.body) ps rest) in
    fault_later m nearest p ps one
    ∙ bodies_fit m (content_after nearest p.body) (before ++ p ∷ []) ps (more nearest before p same) k.1 a.1 rest

entries_known : (commons : List Common) (before : List (ℕ × Segment)) (es : List SegmentEntry)
    → each_after (is_new_entry commons) before (map entry_of es) ≡ true
    → list_all (has_segment commons) (map (λ e. e.id) es) ≡ true
entries_known commons before [] all = refl
entries_known commons before (e ∷ es) all =
    let p = and_parts (is_new_entry commons before (entry_of e))
    (each_after (is_new_entry commons) (before ++ entry_of e ∷ []) (map entry_of es)) all in
    rw ((and_parts (has_segment commons e.id) (not (list_any (λ d. d.0 == e.id) before)) p.0).0)
    (entries_known commons (before ++ entry_of e ∷ []) es p.1)

pub start_known : (m : ModuleValue) (start : Option Place)
    → is_start m.commons (option_map (λ place. (place.segment, place.offset)) start) ≡ true
    → unknown_id m (option_to_list (option_map (λ place. place.segment) start)) ≡ None
start_known m None has = refl
start_known m (Some place) has = rw has

no_fault : (r : ModuleRecords) → UsesAreThere r → use_fault r ≡ None
no_fault r u =
    let m = parts_of r in
    let p = and_parts (each_after (is_new_entry m.commons) [] m.segments) (is_sound m) u.rules in
    let s = sound_parts m p.1 in
    rw (
      none_unknown m (map (λ e. e.id) r.header.segments)
          (entries_known m.commons [] r.header.segments p.0),
      bodies_fit m None [] r.within refl u.segments u.contents s.contents,
      start_known m r.end.start s.start,
    )

pub no_fault_where_uses_are_there : NoFaultExactlyWhereUsesAreThere
no_fault_where_uses_are_there bytes after r s = (
  λ e.
      let bodies = (each_without r e).1.0 in
      record {
        rules = keeps bytes after r s e;
        segments = segments_known (parts_of r) None r.within bodies;
        contents = all_come_after (parts_of r) None [] r.within refl bodies;
      },
  no_fault r,
)
