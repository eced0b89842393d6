-- What comes of the records that are written of a sound module: each can be written and is read again, may follow those before
-- it, and uses nothing that isn't there; and they say what the module has.
use Rattle.std.proofs.Common.{◌≡◌, ℕ, Bool, true, false, ◌&&◌, List, [], ◌∷◌, ◌++◌, length, map, Option, Some, None, is_some, refl, sym, ap, ◌∙◌, subst, append_assoc, inl, inr}
use Rattle.std.specs.Prelude.{not, ◌==◌, if◌then◌else◌, option_map}
use Rattle.omf_core.specs.Name.{is_name}
use Rattle.std.specs.List.{flat_map, list_all, AllByRecursion}
use Rattle.std.specs.Option.{option_or, option_to_list}
use Rattle.std.proofs.lemmas.Bool.{and_parts, and_from, or_right}
use Rattle.std.proofs.lemmas.Bool.Decides.{eqb_tells}
use Rattle.std.proofs.lemmas.List.{append-nil}
use Rattle.omf_body.specs.declared.field.Field.{Field}
use Rattle.omf_body.specs.declared.body.Body.{Body}
use Rattle.omf_body.specs.declared.body.Body.TheVariants.{Relocation, IntersegmentReferences}
use Rattle.omf_body.specs.Bodies.{record_bytes}
use Rattle.omf_model.specs.declared.symbols.Common.{Common}
use Rattle.omf_model.specs.declared.symbols.Public.{Public}
use Rattle.omf_module.specs.declared.fault.Cause.{Cause}
use Rattle.omf_model.specs.declared.fixup.Fixup.{Fixup}
use Rattle.omf_model.specs.declared.fixup.Target.{Target}
use Rattle.omf_model.specs.declared.fixup.Target.TheVariants as target
use Rattle.omf_model.specs.Contents.{ContentValue, is_inside, shares_a_byte}
use Rattle.omf_model.specs.Segments.{has_segment}
use Rattle.omf_model.specs.Modules.{ModuleValue}
use Rattle.omf_model.specs.Rules.{each_after, is_new_common, is_fitting, is_in_bounds, has_fitting, is_content}
use Rattle.omf_module.specs.Records.{commons_in, may_follow, each_follows}
use Rattle.omf_module.specs.Gathered.{publics_in, externals_in, with_fixups, content_after, begins_content, contents_from}
use Rattle.omf_module.specs.Uses.{fixups_fault, body_fault, fault_by, bodies_fault}
use Rattle.omf_module.specs.Writing.{common_body, public_body, external_body, fixup_by, fixup_body, content_body, content_bodies}
use Rattle.omf_model.specs.SoundParts.{in_bounds_parts, new_common}
use Rattle.omf_module.proofs.UsesThere.{fixups_fit, body_fits}
use Rattle.omf_module.proofs.WrittenSpelled.{Fits, placed_after}
use Rattle.omf_module.proofs.WrittenSound.{chosen_by, common_fits, public_fits, external_fits, own_fits, other_fits, external_reference_fits, content_fits}

-- what records say in all
pub record Said : Type 0 where
  pub commons : List Common
  pub publics : List Public
  pub externals : List (List ℕ)
  pub contents : List ContentValue

-- What comes of bodies in a module, after records that declare these commons and have this nearest content.
pub record Passes (m : ModuleValue) (known : List Common) (nearest : Option ContentValue) (bodies : List Body)
    (said : Said) : Type 0 where
  pub fit : AllByRecursion Fits bodies
  pub used : (before : List ℕ) → bodies_fault m nearest (placed_after before bodies) ≡ None
  pub follow : (before : List ℕ) → each_follows known (placed_after before bodies) ≡ true
  pub commons : (before : List ℕ) → flat_map (λ p. commons_in p.body) (placed_after before bodies) ≡ said.commons
  pub publics : (before : List ℕ) → flat_map (λ p. publics_in p.body) (placed_after before bodies) ≡ said.publics
  pub externals : (before : List ℕ) → flat_map (λ p. externals_in p.body) (placed_after before bodies) ≡ said.externals
  pub contents : (before : List ℕ) → contents_from nearest (placed_after before bodies) ≡ said.contents

-- what one body says, and the nearest content after it
abbrev Saying : Type 0
Saying = List Common × List Public × List (List ℕ) × Option ContentValue

abbrev saying : Option ContentValue → Body → Saying
saying nearest body = (commons_in body, publics_in body, externals_in body, content_after nearest body)

abbrev next_alone : ContentValue → Saying
next_alone c = ([], [], [], Some c)

-- what comes of one body
record Passed (m : ModuleValue) (known : List Common) (nearest : Option ContentValue) (body : Body) (cs : List Common)
    (ps : List Public) (xs : List (List ℕ)) (after : Option ContentValue) : Type 0 where
  fits : Fits body
  used : body_fault m nearest body ≡ None
  follow : may_follow known body ≡ true
  says : saying nearest body ≡ (cs, ps, xs, after)

abbrev cut : Option ContentValue → Body → List ContentValue
cut nearest body = if begins_content body then option_to_list nearest else []

joined : {A : Type 0} (a b c d : List A) → a ≡ b → c ≡ d → a ++ c ≡ b ++ d
joined a b c d e f = ap (λ x. x ++ c) e ∙ ap (λ x. b ++ x) f

passes_more : (m : ModuleValue) (known declared cs : List Common) (ps : List Public) (xs : List (List ℕ))
    (nearest after : Option ContentValue) (body : Body) (bodies : List Body) (said : Said)
    → known ++ cs ≡ declared → Passed m known nearest body cs ps xs after → Passes m declared after bodies said
    → Passes m known nearest (body ∷ bodies)
    (record {
      commons = cs ++ said.commons;
      publics = ps ++ said.publics;
      externals = xs ++ said.externals;
      contents = cut nearest body ++ said.contents;
    })
passes_more m known declared cs ps xs nearest after body bodies said declares one others =
    let next : content_after nearest body ≡ after = ap (λ (s : Saying). s.3) one.says in record {
      fit = (one.fits, others.fit);
      used = λ before.
          let rest = placed_after (before ++ record_bytes body) bodies in
          ap (λ (o : Option Cause). option_or (option_map (fault_by (length before)) o)
          (bodies_fault m (content_after nearest body) rest)) one.used
          ∙ (ap (λ (c : Option ContentValue). bodies_fault m c rest) next ∙ others.used (before ++ record_bytes body));
      follow = λ before.
          let rest = placed_after (before ++ record_bytes body) bodies in
          and_from (may_follow known body) (each_follows (known ++ commons_in body) rest) one.follow
          (ap (λ (k : List Common). each_follows k rest) (ap (λ (k : List Common). known ++ k) (ap (λ (s : Saying). s.0) one.says) ∙ declares)
          ∙ others.follow (before ++ record_bytes body));
      commons = λ before. joined (commons_in body) cs _ said.commons (ap (λ (s : Saying). s.0) one.says) (others.commons (before ++ record_bytes body));
      publics = λ before. joined (publics_in body) ps _ said.publics (ap (λ (s : Saying). s.1) one.says) (others.publics (before ++ record_bytes body));
      externals = λ before. joined (externals_in body) xs _ said.externals (ap (λ (s : Saying). s.2) one.says)
          (others.externals (before ++ record_bytes body));
      contents = λ before.
          let rest = placed_after (before ++ record_bytes body) bodies in
          ap (λ (c : Option ContentValue). cut nearest body ++ contents_from c rest) next
          ∙ ap (λ (cs : List ContentValue). cut nearest body ++ cs) (others.contents (before ++ record_bytes body));
    }

-- ---- commons, publics and externals

pub commons_pass : (m : ModuleValue) (before cs : List Common) (bodies : List Body) (said : Said)
    → each_after is_new_common before cs ≡ true → list_all (λ c. is_name c.name) cs ≡ true
    → Passes m (before ++ cs) None bodies said
    → Passes m before None (map common_body cs ++ bodies) (record said { commons = cs ++ said.commons })
commons_pass m before [] bodies said new names others =
    subst (λ (k : List Common). Passes m k None bodies said) (append-nil before) others
commons_pass m before (c ∷ cs) bodies said new names others =
    let p = and_parts (is_new_common before c) (each_after is_new_common (before ++ c ∷ []) cs) new in
    let n = and_parts (is_name c.name) (list_all (λ d. is_name d.name) cs) names in
    passes_more m before (before ++ c ∷ []) (c ∷ []) [] [] None None (common_body c) (map common_body cs ++ bodies)
    (record said { commons = cs ++ said.commons }) refl
    record {
      fits = common_fits c ((new_common before c p.0).id) n.0;
      used = refl;
      follow = and_from (is_new_common before c) true p.0 refl;
      says = refl;
    }
    (commons_pass m (before ++ c ∷ []) cs bodies said p.1 n.1
    (subst (λ (k : List Common). Passes m k None bodies said) (sym (append_assoc before (c ∷ []) cs)) others))

pub publics_pass : (m : ModuleValue) (commons : List Common) (ps : List Public) (bodies : List Body) (said : Said)
    → list_all (λ p. has_segment m.commons p.segment) ps ≡ true → list_all (λ p. is_name p.name) ps ≡ true
    → Passes m commons None bodies said
    → Passes m commons None (map public_body ps ++ bodies) (record said { publics = ps ++ said.publics })
publics_pass m commons [] bodies said has names others = others
publics_pass m commons (p ∷ ps) bodies said has names others =
    let q = and_parts (has_segment m.commons p.segment) (list_all (λ r. has_segment m.commons r.segment) ps) has in
    let n = and_parts (is_name p.name) (list_all (λ r. is_name r.name) ps) names in
    passes_more m commons commons [] (p ∷ []) [] None None (public_body p) (map public_body ps ++ bodies)
    (record said { publics = ps ++ said.publics }) (append-nil commons)
    record { fits = public_fits p n.0; used = rw q.0; follow = refl; says = refl }
    (publics_pass m commons ps bodies said q.1 n.1 others)

pub externals_pass : (m : ModuleValue) (commons : List Common) (xs : List (List ℕ)) (bodies : List Body) (said : Said)
    → list_all is_name xs ≡ true
    → Passes m commons None bodies said
    → Passes m commons None (map external_body xs ++ bodies) (record said { externals = xs ++ said.externals })
externals_pass m commons [] bodies said names others = others
externals_pass m commons (x ∷ xs) bodies said names others =
    let n = and_parts (is_name x) (list_all is_name xs) names in
    passes_more m commons commons [] [] (x ∷ []) None None (external_body x) (map external_body xs ++ bodies)
    (record said { externals = xs ++ said.externals }) (append-nil commons)
    record { fits = external_fits x n.0; used = refl; follow = refl; says = refl }
    (externals_pass m commons xs bodies said n.1 others)

-- ---- a fixup

abbrev fixup_at : Field → ℕ → Target → Fixup
fixup_at field offset to = record { offset = offset; field = field; target = to }

-- what comes of a body that says one fixup in the nearest content
record Fixed (m : ModuleValue) (commons : List Common) (c : ContentValue) (f : Fixup) (body : Body) : Type 0 where
  passed : Passed m commons (Some c) body [] [] [] (Some (with_fixups c (f ∷ [])))
  none : begins_content body ≡ false

abbrev own_reference : Field → ℕ → Body
own_reference field offset = Relocation (record { field = field; references = record { offset = offset } ∷ [] })

abbrev other_reference : ℕ → Field → ℕ → Body
other_reference id field offset =
    IntersegmentReferences (record { segment = id; field = field; references = record { offset = offset } ∷ [] })

own_fixed : (m : ModuleValue) (commons : List Common) (c : ContentValue) (field : Field) (offset id : ℕ) → c.segment ≡ id
    → fixups_fault m c (fixup_at field offset (target.Segment id) ∷ []) ≡ None
    → Fits (own_reference field offset)
    → Fixed m commons c (fixup_at field offset (target.Segment id)) (own_reference field offset)
own_fixed m commons c field offset id same used fits = record {
  passed = record {
    fits = fits;
    used = ap (λ (i : ℕ). fixups_fault m c (fixup_at field offset (target.Segment i) ∷ [])) same
        ∙ used;
    follow = refl;
    says = ap (λ (i : ℕ). next_alone (with_fixups c (fixup_at field offset (target.Segment i) ∷ []))) same;
  };
  none = refl;
}

other_fixed : (m : ModuleValue) (commons : List Common) (c : ContentValue) (field : Field) (offset id : ℕ)
    → has_segment m.commons id ≡ true → fixups_fault m c (fixup_at field offset (target.Segment id) ∷ []) ≡ None
    → Fits (other_reference id field offset)
    → Fixed m commons c (fixup_at field offset (target.Segment id)) (other_reference id field offset)
other_fixed m commons c field offset id has used fits = record {
  passed = record { fits = fits; used = rw has used; follow = refl; says = refl };
  none = refl;
}

same_id : (id own : ℕ) → (id == own) ≡ true → own ≡ id
same_id id own e =
    elim (eqb_tells id own) [
      | inl is ↦ sym is.1
      | inr off ↦ absurd cc
    ]

fixed : (m : ModuleValue) (commons : List Common) (c : ContentValue) (field : Field) (offset : ℕ) (to : Target)
    → is_fitting m.commons (length m.externals) c.offset (length c.bytes) c.fixups (fixup_at field offset to) ≡ true
    → Fixed m commons c (fixup_at field offset to) (fixup_by c.segment field offset to)
fixed m commons c field offset (target.Segment id) fits =
    let f = fixup_at field offset (target.Segment id) in
    let p = and_parts (is_inside c.offset (length c.bytes) f && not (shares_a_byte c.fixups f)) (has_segment m.commons id) fits in
    let used = fixups_fit m c (f ∷ [])
    (and_from (is_fitting m.commons (length m.externals) c.offset (length c.bytes) c.fixups f) true fits refl) in
    chosen_by (Fixed m commons c f) (id == c.segment) (own_reference field offset) (other_reference id field offset)
    (λ same. own_fixed m commons c field offset id (same_id id c.segment same) used (own_fits field offset))
    (other_fixed m commons c field offset id p.1 used (other_fits id field offset))
fixed m commons c field offset (target.External index) fits = record {
  passed = record {
    fits = external_reference_fits index field offset;
    used = fixups_fit m c (fixup_at field offset (target.External index) ∷ []) (rw fits);
    follow = refl;
    says = refl;
  };
  none = refl;
}

-- ---- contents

fixups_pass : (m : ModuleValue) (commons : List Common) (c : ContentValue) (fs : List Fixup) (bodies : List Body) (said : Said)
    → each_after (is_fitting m.commons (length m.externals) c.offset (length c.bytes)) c.fixups fs ≡ true
    → Passes m commons (Some (with_fixups c fs)) bodies said
    → Passes m commons (Some c) (map (fixup_body c.segment) fs ++ bodies) said
fixups_pass m commons c [] bodies said fit others =
    subst (λ (fixups : List Fixup). Passes m commons (Some (record c { fixups = fixups })) bodies said)
    (append-nil c.fixups) others
fixups_pass m commons c (f ∷ fs) bodies said fit others =
    let p = and_parts (is_fitting m.commons (length m.externals) c.offset (length c.bytes) c.fixups f)
    (each_after (is_fitting m.commons (length m.externals) c.offset (length c.bytes)) (c.fixups ++ f ∷ []) fs) fit in
    let one = fixed m commons c f.field f.offset f.target p.0 in
    let last = fixups_pass m commons (with_fixups c (f ∷ [])) fs bodies said p.1
    (subst (λ (fixups : List Fixup). Passes m commons (Some (record c { fixups = fixups })) bodies said)
    (sym (append_assoc c.fixups (f ∷ []) fs)) others) in
    subst (λ (b : Bool). Passes m commons (Some c) (map (fixup_body c.segment) (f ∷ fs) ++ bodies)
    (record said { contents = (if b then c ∷ [] else []) ++ said.contents })) one.none
    (passes_more m commons commons [] [] [] (Some c) (Some (with_fixups c (f ∷ []))) (fixup_body c.segment f)
    (map (fixup_body c.segment) fs ++ bodies) said (append-nil commons) one.passed last)

abbrev unreferred : ContentValue → ContentValue
unreferred c = record c { fixups = [] }

abbrev pub only : List ContentValue → Said
only contents = record { commons = []; publics = []; externals = []; contents = contents }

pub contents_pass : (m : ModuleValue) (commons : List Common) (nearest : Option ContentValue) (cs : List ContentValue)
    → list_all (is_content m.segments m.commons (length m.externals)) cs ≡ true
    → Passes m commons nearest (flat_map content_bodies cs) (only (option_to_list nearest ++ cs))
contents_pass m commons nearest [] sound =
    record {
      fit = tt;
      used = λ b. refl;
      follow = λ b. refl;
      commons = λ b. refl;
      publics = λ b. refl;
      externals = λ b. refl;
      contents = λ b. sym (append-nil (option_to_list nearest));
    }
contents_pass m commons nearest (c ∷ cs) sound =
    let p = and_parts (is_content m.segments m.commons (length m.externals) c)
    (list_all (is_content m.segments m.commons (length m.externals)) cs) sound in
    let q = and_parts (is_in_bounds m.segments m.commons c) (has_fitting m.commons (length m.externals) c) p.0 in
    let placed = in_bounds_parts m.segments m.commons c q.0 in
    passes_more m commons commons [] [] [] nearest (Some (unreferred c)) (content_body c)
    (map (fixup_body c.segment) c.fixups ++ flat_map content_bodies cs) (only (c ∷ cs)) (append-nil commons)
    record {
      fits = content_fits c placed.short;
      used = body_fits m nearest (content_body c) (rw placed.has) (or_right (is_some nearest) true refl) (rw q.0);
      follow =
          refl;
      says = refl;
    }
    (fixups_pass m commons (unreferred c) c.fixups (flat_map content_bodies cs) (only (c ∷ cs)) q.1
    (contents_pass m commons (Some c) cs p.1))
