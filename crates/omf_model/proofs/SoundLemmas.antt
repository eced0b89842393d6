-- What the rules of a module say of its commons, its contents and their places.
use Rattle.std.proofs.Common.{◌≡◌, ℕ, ◌≤◌, Bool, true, false, ◌||◌, List, [], ◌∷◌, length, refl, subst, eqb-true}
use Rattle.std.specs.Prelude.{nat_le, ◌==◌, IsTrue}
use Rattle.std.specs.List.{list_all, AllByRecursion}
use Rattle.std.proofs.lemmas.Bool.{and_parts, leb-true}
use Rattle.omf_core.specs.SegmentId.{is_common_id}
use Rattle.omf_model.specs.declared.symbols.Common.{Common}
use Rattle.omf_model.specs.Contents.{ContentValue}
use Rattle.omf_model.specs.Segments.{has_common_id, has_segment}
use Rattle.omf_model.specs.Modules.{ModuleValue}
use Rattle.omf_model.specs.Rules.{each_after, is_new_common, is_fitting, has_target, is_in_bounds, is_content}
use Rattle.omf_model.specs.SoundParts.{sound_parts, in_bounds_parts, new_common}
use Rattle.omf_model.specs.SoundModules.{LiesIn, HasItsFixups, SoundModulesKeepRules}
use Rattle.omf_model.proofs.FixupLemmas.{content_above, content_inside, content_apart, content_targets}
use Rattle.omf_model.proofs.AfterLemmas.{all_after}

-- the ids of named commons are 6 to 254
common_id : (commons : List Common) (id : ℕ) → IsTrue (list_all (λ c. is_common_id c.id) commons) → has_common_id commons id ≡ true → is_common_id id ≡ true
common_id [] id ids named = absurd cc
common_id (c ∷ cs) id ids named =
    let parts = and_parts (is_common_id c.id) (list_all (λ d. is_common_id d.id) cs) ids in
    (elim (c.id == id) as (λ b. (c.id == id) ≡ b → (b || has_common_id cs id) ≡ true → is_common_id id ≡ true) [
      | true ↦ λ e _. subst (λ n. is_common_id n ≡ true) (eqb-true c.id id e) parts.0
      | false ↦ λ _ later. common_id cs id parts.1 later
    ]) refl named

pub named_id : (commons : List Common) (id : ℕ) → IsTrue (each_after is_new_common [] commons) → has_common_id commons id ≡ true → (6 ≤ id) × (id ≤ 254)
named_id commons id new named =
    let ids = all_after is_new_common (λ c. is_common_id c.id) [] commons (λ before c ok. (new_common before c ok).id) new in
    let parts = and_parts (nat_le 6 id) (nat_le id 254) (common_id commons id ids named) in
    (leb-true 6 id parts.0, leb-true id 254 parts.1)

pub content_lies : (m : ModuleValue) (c : ContentValue) → IsTrue (is_content m.segments m.commons (length m.externals) c) → LiesIn m c
content_lies m c good =
    let p = in_bounds_parts m.segments m.commons c
    (and_parts (is_in_bounds m.segments m.commons c) (each_after (is_fitting m.commons (length m.externals) c.offset (length c.bytes)) [] c.fixups) good).0 in
    record { has = p.has; not_stack = p.not_stack; within = p.within; in_record = p.short }

-- ---- one by one

from_tests : {A : Type 0} (test : A → Bool) (P : A → Type 0) → ((x : A) → IsTrue (test x) → P x) → (xs : List A) → IsTrue (list_all test xs) → AllByRecursion P xs
from_tests test P gives [] all = _
from_tests test P gives (x ∷ xs) all =
    let parts = and_parts (test x) (list_all test xs) all in
    (gives x parts.0, from_tests test P gives xs parts.1)

content_fixups : (m : ModuleValue) (c : ContentValue) → IsTrue (is_content m.segments m.commons (length m.externals) c) → HasItsFixups m c
content_fixups m c good = record {
  fitting = (and_parts (is_in_bounds m.segments m.commons c) (each_after (is_fitting m.commons (length m.externals) c.offset (length c.bytes)) [] c.fixups) good).1;
  begin = from_tests (λ f. nat_le c.offset f.offset) (λ f. c.offset ≤ f.offset) (λ f h. leb-true c.offset f.offset h) c.fixups (content_above m.segments m.commons (length m.externals) c good);
  targets = from_tests (λ f. has_target m.commons (length m.externals) f.target) (λ f. IsTrue (has_target m.commons (length m.externals) f.target)) (λ f h. h) c.fixups (content_targets m.segments m.commons (length m.externals) c good);
  inside = λ word. content_inside m.segments m.commons (length m.externals) c word good;
  apart = λ word. content_apart m.segments m.commons (length m.externals) c word good;
}

pub rules_of : SoundModulesKeepRules
rules_of m sound = let parts = sound_parts m sound in record {
  commons = parts.commons;
  ids = λ id named. named_id m.commons id parts.commons named;
  publics = from_tests (λ p. has_segment m.commons p.segment) (λ p. has_segment m.commons p.segment ≡ true) (λ p h. h) m.publics parts.publics;
  contents = from_tests (is_content m.segments m.commons (length m.externals)) (LiesIn m) (content_lies m) m.contents parts.contents;
  fixups = from_tests (is_content m.segments m.commons (length m.externals)) (HasItsFixups m) (content_fixups m) m.contents parts.contents;
  start = parts.start;
}
