-- The fault of use is the first of all.
use Rattle.std.proofs.Common.{◌≡◌, ℕ, true, false, Option, Some, None, option_map, List, [], ◌∷◌, ◌++◌, map, refl, sym, ap, ◌∙◌, cond}
use Rattle.std.specs.Prelude.{not, filter, filter_map, slice_get}
use Rattle.std.specs.List.{flat_map, last_or, cons_option}
use Rattle.std.specs.Option.{option_or, option_to_list}
use Rattle.omf_body.specs.declared.body.Body.{Body}
use Rattle.omf_body.specs.declared.body.Body.TheVariants.{Content}
use Rattle.omf_module.specs.declared.fault.Cause.{Cause}
use Rattle.omf_module.specs.declared.fault.Cause.TheVariants.{SegmentUnknown, FixupBeforeContent}
use Rattle.omf_module.specs.declared.fault.ModuleFault.{ModuleFault}
use Rattle.omf_module.specs.declared.module_file.PlacedBody.{PlacedBody}
use Rattle.omf_model.specs.declared.fixup.Fixup.{Fixup}
use Rattle.omf_model.specs.Contents.{ContentValue}
use Rattle.omf_model.specs.Modules.{ModuleValue}
use Rattle.omf_model.specs.Segments.{has_segment}
use Rattle.omf_module.specs.Gathered.{fixups_in, with_fixups, content_after, contents_from, parts_of}
use Rattle.omf_module.specs.Uses.{unknown_id, ids_in, place_fault, fixup_fault, fixups_fault, is_reference, reference_fault, body_fault, bodies_fault, fault_by, header_fault}
use Rattle.omf_module.specs.FirstUseLaws.{with_earlier, unknown_segments, nearest_content, cause_of_fixup, causes_of_fixups}
use Rattle.omf_module.specs.FirstUseLaws.{causes_in, faults_at, faults_in, bodies_faults, BodiesFaultIsTheFirst, UseFaultIsTheFirst}
use Rattle.omf_module.proofs.GatheredLemmas.{no_fixups_more, fixups_twice, contents_have_the_fixups_up_to_the_next}

-- ---- the first of a list

abbrev first : {A : Type 0} → List A → Option A
first xs = slice_get xs 0

first_of_both : {A : Type 0} (xs ys : List A) → first (xs ++ ys) ≡ option_or (first xs) (first ys)
first_of_both [] ys = refl
first_of_both (x ∷ xs) ys = refl

first_of_map : {A B : Type 0} (f : A → B) (xs : List A) → first (map f xs) ≡ option_map f (first xs)
first_of_map f [] = refl
first_of_map f (x ∷ xs) = refl

first_of_option : {A : Type 0} (o : Option A) → first (option_to_list o) ≡ o
first_of_option None = refl
first_of_option (Some x) = refl

first_of_cons : {A : Type 0} (o : Option A) (xs : List A) → first (cons_option o xs) ≡ option_or o (first xs)
first_of_cons None xs = refl
first_of_cons (Some x) xs = refl

-- ---- one record

first_unknown : (m : ModuleValue) (ids : List ℕ) → unknown_id m ids ≡ first (unknown_segments m ids)
first_unknown m [] = refl
first_unknown m (id ∷ ids) =
    elim (has_segment m.commons id) as (λ b.
    cond b (unknown_id m ids) (Some (SegmentUnknown id))
    ≡ first (map SegmentUnknown
    (cond (not b) (id ∷ filter (λ i. not (has_segment m.commons i)) ids)
    (filter (λ i. not (has_segment m.commons i)) ids)))) [
      | true ↦ first_unknown m ids
      | false ↦ refl
    ]

first_fixup : (m : ModuleValue) (c : ContentValue) (before fs : List Fixup)
    → fixups_fault m (with_fixups c before) fs ≡ first (filter_map (cause_of_fixup m c) (with_earlier before fs))
first_fixup m c before [] = refl
first_fixup m c before (f ∷ fs) =
    let one : Option Cause = fixup_fault m (with_fixups c before) f in
    ap (λ (d : ContentValue). option_or one (fixups_fault m d fs)) (fixups_twice c before (f ∷ []))
    ∙ ap (λ (o : Option Cause). option_or one o) (first_fixup m c (before ++ f ∷ []) fs)
    ∙ sym (first_of_cons one (filter_map (cause_of_fixup m c) (with_earlier (before ++ f ∷ []) fs)))

first_reference : (m : ModuleValue) (nearest : Option ContentValue) (body : Body)
    → reference_fault m nearest body ≡ first (causes_of_fixups m nearest body)
first_reference m None body =
    elim (is_reference body) as
    (λ b. cond b (Some FixupBeforeContent) None ≡ first (cond b (FixupBeforeContent ∷ []) [])) [ true ↦ refl | false ↦ refl ]
first_reference m (Some c) body =
    ap (λ (d : ContentValue). fixups_fault m d (fixups_in c.segment body)) (sym (no_fixups_more c))
    ∙ first_fixup m c [] (fixups_in c.segment body)

first_in : (m : ModuleValue) (nearest : Option ContentValue) (body : Body)
    → body_fault m nearest body ≡ first (causes_in m nearest body)
first_in m nearest body =
    let ids : List Cause = unknown_segments m (ids_in body) in
    let place : List Cause = option_to_list (place_fault m body) in
    let fixups : List Cause = causes_of_fixups m nearest body in
    sym (first_of_both ids (place ++ fixups)
    ∙ ap (λ (o : Option Cause). option_or (first ids) o) (first_of_both place fixups)
    ∙ ap (λ (o : Option Cause). option_or o (option_or (first place) (first fixups))) (sym (first_unknown m (ids_in body)))
    ∙ ap (λ (o : Option Cause). option_or (unknown_id m (ids_in body)) (option_or o (first fixups)))
    (first_of_option (place_fault m body))
    ∙ ap (λ (o : Option Cause). option_or (unknown_id m (ids_in body)) (option_or (place_fault m body) o))
    (sym (first_reference m nearest body)))

first_at : (at : ℕ) (o : Option Cause) (causes : List Cause) → o ≡ first causes
    → option_map (fault_by at) o ≡ first (faults_at at causes)
first_at at o causes is = ap (option_map (fault_by at)) is ∙ sym (first_of_map (fault_by at) causes)

-- ---- the nearest content

-- the nearest content after records
abbrev after_all : Option ContentValue → List PlacedBody → Option ContentValue
after_all nearest [] = nearest
after_all nearest (p ∷ ps) = after_all (content_after nearest p.body) ps

after_push : (nearest : Option ContentValue) (ps : List PlacedBody) (p : PlacedBody)
    → after_all nearest (ps ++ p ∷ []) ≡ content_after (after_all nearest ps) p.body
after_push nearest [] p = refl
after_push nearest (q ∷ ps) p = after_push (content_after nearest q.body) ps p

-- the last of the contents that follow one is the nearest after all records
abbrev IsLast : ContentValue → List PlacedBody → Type 0
IsLast c ps = (o : Option ContentValue) → last_or o (contents_from (Some c) ps) ≡ after_all (Some c) ps

last_first : (c : ContentValue) (at : ℕ) (body : Body) (ps : List PlacedBody) → ((d : ContentValue) → IsLast d ps)
    → IsLast c (record { at = at; body = body } ∷ ps)
last_first c at (Content b) ps later =
    λ o. later (record { segment = b.segment; offset = b.offset; bytes = b.bytes; fixups = [] }) (Some c)
last_first c at body ps later = λ o. later (with_fixups c (fixups_in c.segment body)) o

last_content : (ps : List PlacedBody) (c : ContentValue) → IsLast c ps
last_content [] c = λ o. refl
last_content (p ∷ ps) c = last_first c p.at p.body ps (last_content ps)

begun_last : (at : ℕ) (body : Body) (ps : List PlacedBody) → last_or None (contents_from None ps) ≡ after_all None ps
    → last_or None (contents_from None (record { at = at; body = body } ∷ ps))
    ≡ after_all None (record { at = at; body = body } ∷ ps)
begun_last at (Content b) ps later =
    last_content ps (record { segment = b.segment; offset = b.offset; bytes = b.bytes; fixups = [] }) None
begun_last at body ps later = later

last_of_all : (ps : List PlacedBody) → last_or None (contents_from None ps) ≡ after_all None ps
last_of_all [] = refl
last_of_all (p ∷ ps) = begun_last p.at p.body ps (last_of_all ps)

nearest_is : (ps : List PlacedBody) → nearest_content ps ≡ after_all None ps
nearest_is ps = ap (last_or None) (sym (contents_have_the_fixups_up_to_the_next ps)) ∙ last_of_all ps

-- ---- all records

first_from : (m : ModuleValue) (before ps : List PlacedBody)
    → bodies_fault m (after_all None before) ps ≡ first (flat_map (faults_in m) (with_earlier before ps))
first_from m before [] = refl
first_from m before (p ∷ ps) =
    let own : List ModuleFault = faults_in m (before, p) in
    let later : List ModuleFault = flat_map (faults_in m) (with_earlier (before ++ p ∷ []) ps) in
    let near : body_fault m (after_all None before) p.body ≡ first (causes_in m (nearest_content before) p.body) =
    ap (λ (n : Option ContentValue). body_fault m n p.body) (sym (nearest_is before))
    ∙ first_in m (nearest_content before) p.body in
    ap (λ (o : Option ModuleFault). option_or o (bodies_fault m (content_after (after_all None before) p.body) ps))
    (first_at p.at _ _ near)
    ∙ ap (λ (n : Option ContentValue). option_or (first own) (bodies_fault m n ps)) (sym (after_push None before p))
    ∙ ap (λ (o : Option ModuleFault). option_or (first own) o) (first_from m (before ++ p ∷ []) ps)
    ∙ sym (first_of_both own later)

pub bodies_fault_is_the_first : BodiesFaultIsTheFirst
bodies_fault_is_the_first m ps = first_from m [] ps

pub use_fault_is_the_first : UseFaultIsTheFirst
use_fault_is_the_first r =
    let m : ModuleValue = parts_of r in
    let ids : List ℕ = map (λ e. e.id) r.header.segments in
    let start : List ℕ = option_to_list (option_map (λ place. place.segment) r.end.start) in
    let front : List ModuleFault = faults_at r.at (unknown_segments m ids) in
    let back : List ModuleFault = faults_at r.end_at (unknown_segments m start) in
    sym (first_of_both front (bodies_faults m r.within ++ back)
    ∙ ap (λ (o : Option ModuleFault). option_or (first front) o) (first_of_both (bodies_faults m r.within) back)
    ∙ ap (λ (o : Option ModuleFault). option_or o (option_or (first (bodies_faults m r.within)) (first back)))
    (sym (first_at r.at _ _ (first_unknown m ids)))
    ∙ ap (λ (o : Option ModuleFault). option_or (header_fault m r) (option_or o (first back)))
    (sym (bodies_fault_is_the_first m r.within))
    ∙ ap (λ (o : Option ModuleFault). option_or (header_fault m r) (option_or (bodies_fault m None r.within) o))
    (sym (first_at r.end_at _ _ (first_unknown m start))))
