-- What the rules of a module say, one by one. (8080 Object Module Formats.)
use Rattle.std.specs.Prelude.{◌≡◌, ℕ, ◌+◌, ◌≤◌, ◌==◌, true, false, ◌&&◌, not, nat_le, List, [], length}
use Rattle.std.specs.List.{list_all}
use Rattle.std.proofs.lemmas.Bool.{and_parts, not-true, leb-true}
use Rattle.omf_core.specs.SegmentId.{stack_id, is_common_id}
use Rattle.omf_model.specs.declared.segment.Segment.{Segment}
use Rattle.omf_model.specs.declared.symbols.Common.{Common}
use Rattle.omf_model.specs.Contents.{ContentValue}
use Rattle.omf_model.specs.Segments.{has_common_id, has_segment}
use Rattle.omf_model.specs.Modules.{ModuleValue}
use Rattle.omf_model.specs.Rules.{each_after, has_common_name, is_new_common, end_of, lies_within, is_in_bounds, is_content, is_start, is_sound}

pub record SoundParts (m : ModuleValue) : Type 0 where
  pub commons : each_after is_new_common [] m.commons ≡ true
  pub publics : list_all (λ p. has_segment m.commons p.segment) m.publics ≡ true
  pub contents : list_all (is_content m.segments m.commons (length m.externals)) m.contents ≡ true
  pub start : is_start m.commons m.start ≡ true

pub sound_parts : (m : ModuleValue) → is_sound m ≡ true → SoundParts m
sound_parts m sound =
    let c = and_parts
    (each_after is_new_common [] m.commons && list_all (λ q. has_segment m.commons q.segment) m.publics
    && list_all (is_content m.segments m.commons (length m.externals)) m.contents)
    (is_start m.commons m.start) sound in
    let b = and_parts
    (each_after is_new_common [] m.commons && list_all (λ q. has_segment m.commons q.segment) m.publics)
    (list_all (is_content m.segments m.commons (length m.externals)) m.contents) c.0 in
    let a = and_parts (each_after is_new_common [] m.commons) (list_all (λ q. has_segment m.commons q.segment) m.publics) b.0 in
    record { commons = a.0; publics = a.1; contents = b.1; start = c.1 }

-- a content that lies where it may
pub record InBoundsParts (segments : List (ℕ × Segment)) (commons : List Common) (c : ContentValue) : Type 0 where
  pub has : has_segment commons c.segment ≡ true
  pub not_stack : (c.segment == stack_id) ≡ false
  pub within : c.offset + length c.bytes ≤ end_of segments c.segment
  pub short : length c.bytes ≤ 65531

pub in_bounds_parts : (segments : List (ℕ × Segment)) (commons : List Common) (c : ContentValue) →
    is_in_bounds segments commons c ≡ true → InBoundsParts segments commons c
in_bounds_parts segments commons c placed =
    let a = and_parts (lies_within segments commons c) (nat_le (length c.bytes) 65531) placed in
    let b = and_parts
    (has_segment commons c.segment && not (c.segment == stack_id))
    (nat_le (c.offset + length c.bytes) (end_of segments c.segment)) a.0 in
    let d = and_parts (has_segment commons c.segment) (not (c.segment == stack_id)) b.0 in
    record {
      has = d.0;
      not_stack = not-true (c.segment == stack_id) d.1;
      within = leb-true (c.offset + length c.bytes) (end_of segments c.segment) b.1;
      short = leb-true (length c.bytes) 65531 a.1;
    }

-- a common that may follow others
pub record NewCommon (before : List Common) (c : Common) : Type 0 where
  pub id : is_common_id c.id ≡ true
  pub new_id : not (has_common_id before c.id) ≡ true
  pub new_name : not (has_common_name before c.name) ≡ true

pub new_common : (before : List Common) (c : Common) → is_new_common before c ≡ true → NewCommon before c
new_common before c new =
    let p = and_parts (is_common_id c.id && not (has_common_id before c.id)) (not (has_common_name before c.name)) new in
    let q = and_parts (is_common_id c.id) (not (has_common_id before c.id)) p.0 in
    record { id = q.0; new_id = q.1; new_name = p.1 }
