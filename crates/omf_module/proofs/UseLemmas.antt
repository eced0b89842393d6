-- What records use is looked at one after another.
use Rattle.std.proofs.Common.{◌≡◌, ◌≢◌, ℕ, ◌<◌, ◌≤◌, ◌+◌, Bool, true, false, Option, Some, None, Result, Ok, Err, List, [], ◌∷◌, ◌++◌, length, drop, get_or, refl, sym, ap, subst, ◌∙◌, append_assoc}
use Rattle.std.specs.Prelude.{if◌then◌else◌, option_map, IfOk, IfErr, OnOk}
use Rattle.std.specs.Option.{option_or, option_to_list}
use Rattle.std.proofs.lemmas.List.{append-nil, drop_all, drop_more}
use Rattle.omf_body.specs.declared.body.ContentBody.{ContentBody}
use Rattle.omf_body.specs.declared.body.Body.{Body}
use Rattle.omf_body.specs.declared.body.Body.TheVariants.{Content}
use Rattle.omf_module.specs.declared.fault.Cause.{Cause}
use Rattle.omf_module.specs.declared.fault.Cause.TheVariants.{SegmentUnknown, Memory}
use Rattle.omf_module.specs.declared.module_file.PlacedBody.{PlacedBody}
use Rattle.omf_module.specs.Fault.{fault_of}
use Rattle.omf_model.specs.Contents.{ContentValue}
use Rattle.omf_model.specs.Modules.{ModuleValue}
use Rattle.omf_model.specs.Segments.{has_segment}
use Rattle.omf_module.specs.Gathered.{content_after, contents_from, begins_content, fixups_in, with_fixups}
use Rattle.omf_module.specs.Uses.{unknown_id, ids_in, place_fault, reference_fault, body_fault, bodies_fault, fault_by}
use Rattle.omf_module.specs.Reading.{with_contents, TakesBody, OrNoMemory}
use Rattle.omf_module.proofs.KeepsLemmas.{one_known}
use Rattle.omf_module.proofs.WithinLemmas.{by_cause}

-- ---- ids

by_test : (test : Bool) (f : Cause) (rest other : Option Cause) → Some f ≡ (if test then None else other)
    → (if test then rest else other) ≡ Some f
by_test true f rest other e = absurd cc
by_test false f rest other e = sym e

pub unknown_first : (m : ModuleValue) (id : ℕ) (ids : List ℕ) (f : Cause) → Some f ≡ unknown_id m (id ∷ [])
    → unknown_id m (id ∷ ids) ≡ Some f
unknown_first m id ids f e = by_test (has_segment m.commons id) f (unknown_id m ids) (Some (SegmentUnknown id)) e

pub known_first : (m : ModuleValue) (id : ℕ) (ids : List ℕ) → None ≡ unknown_id m (id ∷ [])
    → unknown_id m (id ∷ ids) ≡ unknown_id m ids
known_first m id ids e = rw (one_known m id (sym e))

-- ---- bodies

-- the first fault is that of the first record that has one
pub fault_first : (m : ModuleValue) (nearest : Option ContentValue) (p : PlacedBody) (ps : List PlacedBody) (why : Cause)
    → body_fault m nearest p.body ≡ Some why → bodies_fault m nearest (p ∷ ps) ≡ Some (fault_by p.at why)
fault_first m nearest p ps why e =
    ap (λ (f : Option Cause). option_or (option_map (fault_by p.at) f) (bodies_fault m (content_after nearest p.body) ps)) e

pub fault_later : (m : ModuleValue) (nearest : Option ContentValue) (p : PlacedBody) (ps : List PlacedBody)
    → body_fault m nearest p.body ≡ None → bodies_fault m nearest (p ∷ ps) ≡ bodies_fault m (content_after nearest p.body) ps
fault_later m nearest p ps e =
    ap (λ (f : Option Cause). option_or (option_map (fault_by p.at) f) (bodies_fault m (content_after nearest p.body) ps)) e

-- what was looked at so far, and what is left
pub record ContentsSoFar (parts : ModuleValue) (all : List PlacedBody) (rest : List PlacedBody) (nearest : Option ContentValue)
    (whole : List ContentValue) : Type 0 where
  pub sound : (cs : List ContentValue)
      → bodies_fault (with_contents parts cs) nearest rest ≡ bodies_fault (with_contents parts cs) None all
  pub contents : whole ++ contents_from nearest rest ≡ contents_from None all

pub one_looked_at : (parts : ModuleValue) (all : List PlacedBody) (p : PlacedBody) (ps : List PlacedBody)
    (nearest after : Option ContentValue) (old new : List ContentValue)
    → ContentsSoFar parts all (p ∷ ps) nearest old → TakesBody parts nearest p.body old new after
    → ContentsSoFar parts all ps after new
one_looked_at parts all p ps nearest after old new s t = record {
  sound = λ cs. ap (λ (n : Option ContentValue). bodies_fault (with_contents parts cs) n ps) t.nearest
      ∙ (sym (fault_later (with_contents parts cs) nearest p ps (t.sound cs)) ∙ s.sound cs);
  contents =
      let begun = if begins_content p.body then option_to_list nearest else [] in
      ap (λ (n : Option ContentValue). new ++ contents_from n ps) t.nearest
      ∙ (ap (λ (w : List ContentValue). w ++ contents_from (content_after nearest p.body) ps) t.whole
      ∙ (append_assoc old begun (contents_from (content_after nearest p.body) ps) ∙ s.contents));
}

pub all_looked_at : (parts : ModuleValue) (all : List PlacedBody) (i : ℕ) (nearest : Option ContentValue)
    (whole : List ContentValue)
    → ContentsSoFar parts all (drop i all) nearest whole → length all ≤ i → ContentsSoFar parts all [] nearest whole
all_looked_at parts all i nearest whole s past =
    subst (λ (rest : List PlacedBody). ContentsSoFar parts all rest nearest whole) (drop_all i all past) s

pub fault_here : (parts : ModuleValue) (all : List PlacedBody) (p : PlacedBody) (ps : List PlacedBody)
    (nearest : Option ContentValue) (old : List ContentValue) (why : Cause)
    → ContentsSoFar parts all (p ∷ ps) nearest old
    → (why ≢ Memory → (cs : List ContentValue) → body_fault (with_contents parts cs) nearest p.body ≡ Some why)
    → OrNoMemory (λ fault. (cs : List ContentValue)
    → bodies_fault (with_contents parts cs) None all ≡ Some fault) (fault_of p.at why)
fault_here parts all p ps nearest old why s f =
    by_cause (λ fault. (cs : List ContentValue) → bodies_fault (with_contents parts cs) None all ≡ Some fault) p.at why
    (λ real cs. sym (s.sound cs) ∙ fault_first (with_contents parts cs) nearest p ps why (f real cs))

pub front : (all : List PlacedBody) (i : ℕ) (p : PlacedBody) → i < length all → p ≡ get_or all i p
    → drop i all ≡ p ∷ drop (i + 1) all
front all i p within is = drop_more all i p within ∙ ap (λ (q : PlacedBody). q ∷ drop (i + 1) all) (sym is)

-- a record's own ids and place come before its references
pub own_first : (ids place reference : Option Cause) (why : Cause) → Some why ≡ option_or ids place
    → option_or ids (option_or place reference) ≡ Some why
own_first None None reference why e = absurd cc
own_first None (Some f) reference why e = sym e
own_first (Some f) place reference why e = sym e

pub past_own : (ids place reference : Option Cause) → None ≡ option_or ids place
    → option_or ids (option_or place reference) ≡ reference
past_own None None reference e = refl
past_own None (Some f) reference e = absurd cc
past_own (Some f) place reference e = absurd cc

-- a record that isn't content: its references are looked at after its own ids and place
pub references_refused : (parts : ModuleValue) (nearest : Option ContentValue) (body : Body)
    (r : Result (Option ContentValue) Cause)
    → ((cs : List ContentValue)
    → None ≡ option_or (unknown_id (with_contents parts cs) (ids_in body)) (place_fault (with_contents parts cs) body))
    → IfErr r (λ why. why ≢ Memory → (cs : List ContentValue) → reference_fault (with_contents parts cs) nearest body ≡ Some why)
    → IfErr r (λ why. why ≢ Memory → (cs : List ContentValue) → body_fault (with_contents parts cs) nearest body ≡ Some why)
references_refused parts nearest body (Ok after) own f = tt
references_refused parts nearest body (Err why) own f = λ real cs.
    let m = with_contents parts cs in
    past_own (unknown_id m (ids_in body)) (place_fault m body) (reference_fault m nearest body) (own cs) ∙ f real cs

begins_none : (body : Body) → ((b : ContentBody) → body ≡ Content b → ⊥) → begins_content body ≡ false
begins_none (Content b) other = absurd (other b refl)
begins_none _ other = refl

after_none : (nearest : Option ContentValue) (body : Body) → ((b : ContentBody) → body ≡ Content b → ⊥)
    → content_after nearest body ≡ option_map (λ c. with_fixups c (fixups_in c.segment body)) nearest
after_none nearest (Content b) other = absurd (other b refl)
after_none nearest _ other = refl

pub references_taken : (parts : ModuleValue) (nearest : Option ContentValue) (body : Body) (whole : List ContentValue)
    (r : Result (Option ContentValue) Cause)
    → ((b : ContentBody) → body ≡ Content b → ⊥)
    → ((cs : List ContentValue)
    → None ≡ option_or (unknown_id (with_contents parts cs) (ids_in body)) (place_fault (with_contents parts cs) body))
    → OnOk r ((cs : List ContentValue) → reference_fault (with_contents parts cs) nearest body ≡ None)
    → IfOk r (λ after. after ≡ option_map (λ c. with_fixups c (fixups_in c.segment body)) nearest)
    → IfOk r (λ after. TakesBody parts nearest body whole whole after)
references_taken parts nearest body whole (Err why) other own sound is = tt
references_taken parts nearest body whole (Ok after) other own sound is = record {
  sound = λ cs. let m = with_contents parts cs in
      past_own (unknown_id m (ids_in body)) (place_fault m body) (reference_fault m nearest body) (own cs) ∙ sound cs;
  nearest = is ∙ sym (after_none nearest body other);
  whole = sym (append-nil whole)
      ∙ ap (λ (begins : Bool). whole ++ (if begins then option_to_list nearest else [])) (sym (begins_none body other));
}
