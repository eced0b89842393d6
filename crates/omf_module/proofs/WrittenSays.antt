-- What the records say that are written of a module: the module.
use Rattle.std.proofs.Common.{◌≡◌, ℕ, Bool, true, false, ◌&&◌, List, [], ◌∷◌, ◌++◌, map, Option, Some, None, refl, sym, ap, ◌∙◌, subst, append_assoc}
use Rattle.std.specs.Prelude.{not, ◌==◌, if◌then◌else◌, option_map}
use Rattle.std.specs.List.{flat_map, list_all}
use Rattle.omf_core.specs.Name.{is_name}
use Rattle.std.proofs.lemmas.Bool.{and_parts}
use Rattle.std.proofs.lemmas.List.{append-nil}
use Rattle.std.proofs.lemmas.List.Folds.{list_all-map}
use Rattle.omf_model.specs.declared.segment.Segment.{Segment}
use Rattle.omf_model.specs.Segments.{has_segment}
use Rattle.omf_model.specs.Modules.{ModuleValue}
use Rattle.omf_model.specs.Rules.{is_start, has_names, IsModule}
use Rattle.omf_module.specs.Records.{ModuleRecords}
use Rattle.omf_module.specs.Gathered.{parts_of}
use Rattle.omf_module.specs.Uses.{use_fault}
use Rattle.omf_module.specs.Writing.{segment_entry, header_body, common_body, public_body, external_body, content_bodies, place_of, end_body, bodies_within}
use Rattle.omf_model.specs.SoundParts.{sound_parts}
use Rattle.omf_module.proofs.UsesThere.{none_unknown, start_known}
use Rattle.omf_module.proofs.WrittenSpelled.{placed_after}
use Rattle.omf_module.proofs.WrittenPasses.{Passes, commons_pass, publics_pass, externals_pass, contents_pass}

-- ---- each list

paged_again : (paged : Bool) → not ((if paged then 2 else 3) == 3) ≡ paged
paged_again true = refl
paged_again false = refl

segments_again : (segments : List (ℕ × Segment))
    → map (λ e. (e.id, record { length = e.length; paged = not (e.alignment == 3) })) (map segment_entry segments)
    ≡ segments
segments_again [] = refl
segments_again (s ∷ ss) =
    ap (λ (p : Bool). (s.0, record { length = s.1.length; paged = p }) ∷ map
    (λ e. (e.id, record { length = e.length; paged = not (e.alignment == 3) })) (map segment_entry ss))
    (paged_again s.1.paged)
    ∙ ap (λ (rest : List (ℕ × Segment)). s ∷ rest) (segments_again ss)

start_again : (start : Option (ℕ × ℕ)) → option_map (λ place. (place.segment, place.offset)) (option_map place_of start) ≡ start
start_again None = refl
start_again (Some start) = refl

-- ---- all that the records say

-- the records of a module, where they stand after these bytes
abbrev pub records_after : ModuleValue → List ℕ → ℕ → ℕ → ModuleRecords
records_after m front at end_at =
    record {
      at = at;
      header = header_body m;
      within = placed_after front (bodies_within m);
      end_at = end_at;
      end = end_body m.start;
    }

pub name_of : (m : ModuleValue) → has_names m ≡ true → is_name m.name ≡ true
name_of m names =
    let e = and_parts (is_name m.name && list_all (λ c. is_name c.name) m.commons && list_all (λ p. is_name p.name) m.publics)
    (list_all is_name m.externals) names in
    let p = and_parts (is_name m.name && list_all (λ c. is_name c.name) m.commons)
    (list_all (λ q. is_name q.name) m.publics) e.0 in
    (and_parts (is_name m.name) (list_all (λ c. is_name c.name) m.commons) p.0).0

pub within_passes : (m : ModuleValue) → IsModule m
    → Passes m [] None (bodies_within m)
    (record { commons = m.commons ++ []; publics = m.publics ++ []; externals = m.externals ++ []; contents = m.contents })
within_passes m is =
    let r = sound_parts m is.sound in
    let e = and_parts (is_name m.name && list_all (λ c. is_name c.name) m.commons && list_all (λ p. is_name p.name) m.publics)
    (list_all is_name m.externals) is.names in
    let p = and_parts (is_name m.name && list_all (λ c. is_name c.name) m.commons)
    (list_all (λ q. is_name q.name) m.publics) e.0 in
    let n = and_parts (is_name m.name) (list_all (λ c. is_name c.name) m.commons) p.0 in
    let contents = contents_pass m m.commons None m.contents r.contents in
    let externals = externals_pass m m.commons m.externals (flat_map content_bodies m.contents) _ e.1 contents in
    let publics = publics_pass m m.commons m.publics
    (map external_body m.externals ++ flat_map content_bodies m.contents) _ r.publics p.1 externals in
    let all = commons_pass m [] m.commons
    (map public_body m.publics
    ++ (map external_body m.externals ++ flat_map content_bodies m.contents)) _ r.commons n.1 publics in
    rw (append_assoc (map common_body m.commons ++ map public_body m.publics), append_assoc (map common_body m.commons)) all

pub says_module : (m : ModuleValue) (front : List ℕ) (at end_at : ℕ) → IsModule m → parts_of (records_after m front at end_at) ≡ m
says_module m front at end_at is =
    let w = within_passes m is in
    rw (
      segments_again m.segments,
      w.commons front,
      append-nil m.commons,
      w.publics front,
      append-nil m.publics,
      w.externals
          front,
      append-nil m.externals,
      w.contents front,
      start_again m.start,
    )

-- ---- all that the records use

pub uses_none : (m : ModuleValue) (front : List ℕ) (at end_at : ℕ) → IsModule m
    → use_fault (records_after m front at end_at) ≡ None
uses_none m front at end_at is =
    let known : list_all (has_segment m.commons) (map (λ e. e.id) (map segment_entry m.segments)) ≡ true =
    rw (list_all-map (has_segment m.commons), list_all-map) is.own in
    let start = subst (λ (s : Option (ℕ × ℕ)). is_start m.commons s ≡ true) (sym (start_again m.start))
    (sound_parts m is.sound).start in
    rw (
      says_module m front at end_at is,
      none_unknown m (map (λ e. e.id) (map segment_entry m.segments)) known,
      (within_passes m is).used front,
      start_known m (option_map place_of m.start) start,
    )
