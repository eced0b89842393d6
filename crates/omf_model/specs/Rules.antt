-- The rules that every module keeps, as one test.
-- (8080 Object Module Formats; one of two things that share an id, a name or a byte would be lost.)
use Rattle.std.specs.Prelude.{◌≡◌, ℕ, ◌+◌, ◌==◌, Bool, true, ◌&&◌, not, nat_lt, nat_le, if◌then◌else◌, Option, Some, None, List, [], ◌∷◌, ◌++◌, length, IsTrue}
use Rattle.std.specs.List.{list_all, list_any}
use Rattle.omf_core.specs.Name.{is_name, same_name}
use Rattle.omf_core.specs.SegmentId.{absolute_id, stack_id, is_common_id}
use Rattle.omf_model.specs.declared.segment.Segment.{Segment}
use Rattle.omf_model.specs.declared.symbols.Common.{Common}
use Rattle.omf_model.specs.declared.fixup.Fixup.{Fixup}
use Rattle.omf_model.specs.declared.fixup.Target.{Target}
use Rattle.omf_model.specs.declared.fixup.Target.TheVariants as target
use Rattle.omf_model.specs.Contents.{ContentValue, is_inside, shares_a_byte}
use Rattle.omf_model.specs.Segments.{has_common_id, has_segment, segment_in, canonical_segments}
use Rattle.omf_model.specs.Modules.{ModuleValue}

-- Each item passes the test, which also looks at the items before it: those of `before`, and of the list.
abbrev pub each_after : {A : Type 0} → (List A → A → Bool) → List A → List A → Bool
each_after test before [] = true
each_after test before (x ∷ xs) = test before x && each_after test (before ++ x ∷ []) xs

-- the segment entry is of a segment that the module has, and of none that is listed before
abbrev pub is_new_entry : List Common → List (ℕ × Segment) → ℕ × Segment → Bool
is_new_entry commons before e = has_segment commons e.0 && not (list_any (λ d. d.0 == e.0) before)

-- one of the commons has this name
abbrev pub has_common_name : List Common → List ℕ → Bool
has_common_name commons name = list_any (λ c. same_name c.name name) commons

-- the common's id is one for commons, and neither id nor name stands before
abbrev pub is_new_common : List Common → Common → Bool
is_new_common before c = is_common_id c.id && not (has_common_id before c.id) && not (has_common_name before c.name)

-- what a reference is to is there
abbrev pub has_target : List Common → ℕ → Target → Bool
has_target commons externals (target.Segment id) = has_segment commons id
has_target commons externals (target.External index) = nat_lt index externals

-- the reference lies inside the record's bytes, shares none with those before it, and its target is there
abbrev pub is_fitting : List Common → ℕ → ℕ → ℕ → List Fixup → Fixup → Bool
is_fitting commons externals first size before f =
    is_inside first size f && not (shares_a_byte before f) && has_target commons externals f.target

-- the end of a segment: its length, and for absolute bytes the end of memory
abbrev pub end_of : List (ℕ × Segment) → ℕ → ℕ
end_of segments id = if id == absolute_id then 65536 else (segment_in segments id).length

-- the record lies within a segment that the module has and that isn't STACK
abbrev pub lies_within : List (ℕ × Segment) → List Common → ContentValue → Bool
lies_within segments commons c =
    has_segment commons c.segment && not (c.segment == stack_id) && nat_le (c.offset + length c.bytes) (end_of segments c.segment)

-- and fits one record of a file
abbrev pub is_in_bounds : List (ℕ × Segment) → List Common → ContentValue → Bool
is_in_bounds segments commons c = lies_within segments commons c && nat_le (length c.bytes) 65531

-- its references are each in its own bytes, apart from those before, and to what is there
abbrev pub has_fitting : List Common → ℕ → ContentValue → Bool
has_fitting commons externals c = each_after (is_fitting commons externals c.offset (length c.bytes)) [] c.fixups

-- what is asked of a content
abbrev pub is_content : List (ℕ × Segment) → List Common → ℕ → ContentValue → Bool
is_content segments commons externals c =
    is_in_bounds segments commons c && has_fitting commons externals c

-- the start, if there is one, is in a segment that the module has
abbrev pub is_start : List Common → Option (ℕ × ℕ) → Bool
is_start commons None = true
is_start commons (Some place) = has_segment commons place.0

-- the rules that don't speak of how the segments are listed
abbrev pub is_sound : ModuleValue → Bool
is_sound m =
    each_after is_new_common [] m.commons
    && list_all (λ p. has_segment m.commons p.segment) m.publics
    && list_all (is_content m.segments m.commons (length m.externals)) m.contents
    && is_start m.commons m.start

-- all rules
abbrev pub keeps_rules : ModuleValue → Bool
keeps_rules m = each_after (is_new_entry m.commons) [] m.segments && is_sound m

-- the rules that don't speak of references: those of the lists, of the places of contents, and of the start
abbrev pub keeps_rules_but_for_fixups : ModuleValue → Bool
keeps_rules_but_for_fixups m =
    each_after (is_new_entry m.commons) [] m.segments
    && each_after is_new_common [] m.commons
    && list_all (λ p. has_segment m.commons p.segment) m.publics
    && list_all (is_in_bounds m.segments m.commons) m.contents
    && is_start m.commons m.start

-- the rules of references
abbrev pub keeps_fixup_rules : ModuleValue → Bool
keeps_fixup_rules m = list_all (has_fitting m.commons (length m.externals)) m.contents

-- all names are names, as their type keeps it
abbrev pub has_names : ModuleValue → Bool
has_names m =
    is_name m.name
    && list_all (λ c. is_name c.name) m.commons
    && list_all (λ p. is_name p.name) m.publics
    && list_all is_name m.externals

-- a module keeps them, its names are names, and its segments, all of them its own, have their one form
pub record IsModule (m : ModuleValue) : Type 0 where
  pub sound : IsTrue (is_sound m)
  pub own : IsTrue (list_all (λ e. has_segment m.commons e.0) m.segments)
  pub canonical : m.segments ≡ canonical_segments m.segments m.commons
  pub names : IsTrue (has_names m)
