-- Parts that are joined by name are the segments of the linked module's commons.
use Rattle.std.specs.Prelude.{◌≡◌, ℕ, zero, suc, ◌+◌, ◌≤◌, ◌<◌, ◌==◌, nat_eq, Bool, true, false, not, ◌||◌, Option, Some}
use Rattle.std.specs.Prelude.{None, option_map, List, [], ◌∷◌, ◌++◌, find, map, length, max, refl, slice_get, IsTrue}
use Rattle.std.specs.List.{list_any, flat_map, enumerate_from, AllByRecursion}
use Rattle.std.specs.Option.{option_map_or}
use Rattle.std.specs.Cmp.Lexicographic.{pointwise}
use Rattle.std.proofs.Common.{◌∙◌, ap, sym, arith, inl, inr, cond, true≢false}
use Rattle.std.proofs.lemmas.Bool.{cases_Bool, and_parts, or_parts, or_from, ne_eqb}
use Rattle.std.proofs.lemmas.Bool.Decides.{nat_tests}
use Rattle.omf_model.specs.declared.segment.Segment.{Segment}
use Rattle.omf_model.specs.declared.symbols.Common.{Common}
use Rattle.omf_model.specs.Segments.{empty_segment, is_fixed_id, segment_in}
use Rattle.omf_model.specs.Modules.{ModuleValue}
use Rattle.omf_model.specs.Rules.{each_after, is_new_common, IsModule}
use Rattle.omf_model.specs.SoundParts.{sound_parts}
use Rattle.omf_model.specs.Place.{common_name, is_laid_out}
use Rattle.link80.specs.FirstSight.{number_in}
use Rattle.link80.specs.Joined.{joined_parts, with_parts, parts_of_commons, with_part_at, with_named_parts}
use Rattle.link80.specs.Linked.{numbered_common, common_names, linked_commons, part_of, parts_end, greatest, linked_length, linked_segment}
use Rattle.link80.proofs.FirstSightLemmas.{same_both_ways}
use Rattle.link80.proofs.ListLemmas.{any_front, any_back}
use Rattle.link80.proofs.NameLemmas.{has_name, name_is, name_itself, numbered}
use Rattle.link80.proofs.SegmentLemmas.{NoTwice, distinct_no_twice}

-- ---- parts of all modules, one over another

max_twice : (a b c : ℕ) → max (max a b) c ≡ max a (max b c)
max_twice a b c = omega arith

or_twice : (a b c : Bool) → ((a || b) || c) ≡ (a || (b || c))
or_twice true b c = refl
or_twice false b c = refl

or_false : (b : Bool) → (b || false) ≡ b
or_false true = refl
or_false false = refl

none_longer : (n : ℕ) → max 0 n ≡ n
none_longer n = omega arith

max_zero : (n : ℕ) → max n 0 ≡ n
max_zero n = omega arith

abbrev pub with_length : ℕ → Segment → Segment
with_length end s = record { length = end; paged = s.paged }

abbrev pub all_parts : (ModuleValue → Segment) → Segment → List ModuleValue → Segment
all_parts part s ms = record {
  length = max s.length (greatest (map (λ m. (part m).length) ms));
  paged = s.paged || list_any (λ m. (part m).paged) ms;
}

joined_none : (s : Segment) → s ≡ joined_parts s empty_segment
joined_none s = λ j. record { length = sym (max_zero s.length) j; paged = sym (or_false s.paged) j }

pub parts_joined : (part : ModuleValue → Segment) (s : Segment) (ms : List ModuleValue)
    → with_parts part s ms ≡ all_parts part s ms
parts_joined part s [] = joined_none s
parts_joined part s (m ∷ ms) =
    parts_joined part (joined_parts s (part m)) ms
    ∙ (λ j. record {
      length = max_twice s.length (part m).length (greatest (map (λ k. (part k).length) ms)) j;
      paged = or_twice s.paged (part m).paged (list_any (λ k. (part k).paged) ms) j;
    })

-- ---- the parts of one name

abbrev pub parts_named : List ℕ → Segment → List (List ℕ × Segment) → Segment
parts_named name s [] = s
parts_named name s (p ∷ ps) = parts_named name (cond (pointwise nat_eq p.0 name) (joined_parts s p.1) s) ps

-- one part is joined at the number of its name, and no other
same_elsewhere : (n : List ℕ) (part : Segment) (f : List ℕ → Segment) (names : List (List ℕ)) → has_name names n ≡ false →
    map f names ≡ map (λ name. cond (pointwise nat_eq n name) (joined_parts (f name) part) (f name)) names
same_elsewhere n part f [] none = refl
same_elsewhere n part f (o ∷ os) none =
    let parts = or_parts (pointwise nat_eq o n) (has_name os n) none in
    let differs : pointwise nat_eq n o ≡ false = same_both_ways n o ∙ parts.0 in
    ap (λ b. cond b (joined_parts (f o) part) (f o) ∷ map f os) (sym differs)
    ∙ ap (λ l. cond (pointwise nat_eq n o) (joined_parts (f o) part) (f o) ∷ l) (same_elsewhere n part f os parts.1)

later_part : (s : Segment) (segments : List Segment) (o : Option ℕ) (part : Segment)
    → with_part_at (s ∷ segments) (option_map suc o) part ≡ s ∷ with_part_at segments o part
later_part s segments None part = refl
later_part s segments (Some k) part = refl

part_at : (n : List ℕ) (part : Segment) (f : List ℕ → Segment) (names : List (List ℕ)) → NoTwice names →
    with_part_at (map f names) (number_in names n) part
    ≡ map (λ name. cond (pointwise nat_eq n name) (joined_parts (f name) part) (f name)) names
part_at n part f [] once = refl
part_at n part f (o ∷ os) once = elim (cases_Bool (pointwise nat_eq o n)) [
  | inl same ↦
      let is : o ≡ n = name_is o n same in
      let itself : pointwise nat_eq n o ≡ true = ap (pointwise nat_eq n) is ∙ name_itself n in
      ap (λ b. with_part_at (f o ∷ map f os) (cond b (Some 0) (option_map suc (number_in os n))) part) same
      ∙ ap (λ l. joined_parts (f o) part ∷ l) (same_elsewhere n part f os (ap (has_name os) (sym is) ∙ once.0))
      ∙ ap (λ b. cond b (joined_parts (f o) part) (f o) ∷ map
      (λ name. cond (pointwise nat_eq n name) (joined_parts (f name) part) (f name)) os) (sym itself)
  | inr differs ↦
      ap (λ b. with_part_at (f o ∷ map f os) (cond b (Some 0) (option_map suc (number_in os n))) part) differs
      ∙ later_part (f o) (map f os) (number_in os n) part
      ∙ ap (λ l. f o ∷ l) (part_at n part f os once.1)
      ∙ ap (λ b. cond b (joined_parts (f o) part) (f o) ∷ map
      (λ name. cond (pointwise nat_eq n name) (joined_parts (f name) part) (f name)) os) (sym (same_both_ways n o ∙ differs))
]

pub named_parts : (names : List (List ℕ)) (f : List ℕ → Segment) (parts : List (List ℕ × Segment)) → NoTwice names →
    with_named_parts names (map f names) parts ≡ map (λ name. parts_named name (f name) parts) names
named_parts names f [] once = refl
named_parts names f (p ∷ ps) once =
    ap (λ segments. with_named_parts names segments ps) (part_at p.0 p.1 f names once)
    ∙ named_parts names (λ name. cond (pointwise nat_eq p.0 name) (joined_parts (f name) p.1) (f name)) ps once

-- ---- a module has at most one part of a name

abbrev pub OncePart : ModuleValue → Type 0
OncePart m = IsTrue (each_after is_new_common [] m.commons)

none_later : (before cs : List Common) (n : List ℕ) → list_any (λ (d : Common). pointwise nat_eq d.name n) before ≡ true
    → each_after is_new_common before cs ≡ true →
    has_name (map (λ (c : Common). c.name) cs) n ≡ false
none_later before [] n there new = refl
none_later before (c ∷ cs) n there new =
    let parts = and_parts (is_new_common before c) (each_after is_new_common (before ++ c ∷ []) cs) new in
    let tests = and_parts _ (not (list_any (λ (d : Common). pointwise nat_eq d.name c.name) before)) parts.0 in
    or_from (pointwise nat_eq c.name n) (has_name (map (λ (c : Common). c.name) cs) n)
    (elim (cases_Bool (pointwise nat_eq c.name n)) [
      | inl same ↦ absurd (true≢false (sym there
          ∙ ap (λ m. list_any (λ (d : Common). pointwise nat_eq d.name m) before) (sym (name_is c.name n same))
          ∙ was_not (list_any (λ (d : Common). pointwise nat_eq d.name c.name) before) tests.1))
      | inr differs ↦ differs
    ])
    (none_later (before ++ c ∷ []) cs n (any_front (λ (d : Common). pointwise nat_eq d.name n) before (c ∷ []) there) parts.1)
  where
    was_not : (b : Bool) → not b ≡ true → b ≡ false
    was_not true e = absurd cc
    was_not false e = refl

none_named_so : (segment : ℕ → Segment) (name : List ℕ) (s : Segment) (cs : List Common)
    → has_name (map (λ (c : Common). c.name) cs) name ≡ false →
    parts_named name s (map (λ (c : Common). (c.name, segment c.id)) cs) ≡ s
none_named_so segment name s [] none = refl
none_named_so segment name s (c ∷ cs) none =
    let parts = or_parts (pointwise nat_eq c.name name) (has_name (map (λ (c : Common). c.name) cs) name) none in
    ap (λ b. parts_named name (cond b (joined_parts s (segment c.id)) s) (map (λ (c : Common). (c.name, segment c.id)) cs))
    parts.0
    ∙ none_named_so segment name s cs parts.1

abbrev found_part : (ℕ → Segment) → Option Common → Segment
found_part segment o = option_map_or (λ (c : Common). segment c.id) o empty_segment

one_part : (segment : ℕ → Segment) (name : List ℕ) (s : Segment) (before cs : List Common)
    → each_after is_new_common before cs ≡ true →
    parts_named name s (map (λ (c : Common). (c.name, segment c.id)) cs)
    ≡ joined_parts s (found_part segment (find (λ (c : Common). pointwise nat_eq c.name name) cs))
one_part segment name s before [] new = joined_none s
one_part segment name s before (c ∷ cs) new =
    let parts = and_parts (is_new_common before c) (each_after is_new_common (before ++ c ∷ []) cs) new in
    let rest : List (List ℕ × Segment) = map (λ (c : Common). (c.name, segment c.id)) cs in
    let found : Option Common = find (λ (c : Common). pointwise nat_eq c.name name) cs in
    elim (cases_Bool (pointwise nat_eq c.name name)) [
      | inl same ↦
          ap (λ b. parts_named name (cond b (joined_parts s (segment c.id)) s) rest) same
          ∙ none_named_so segment name (joined_parts s (segment c.id)) cs
          (none_later (before ++ c ∷ []) cs name
          (any_back (λ (d : Common). pointwise nat_eq d.name name) before (c ∷ []) (ap (λ b. b || false) same)) parts.1)
          ∙ ap (λ b. joined_parts s (found_part segment (cond b (Some c) found))) (sym same)
      | inr differs ↦
          ap (λ b. parts_named name (cond b (joined_parts s (segment c.id)) s) rest) differs
          ∙ one_part segment name s (before ++ c ∷ []) cs parts.1
          ∙ ap (λ b. joined_parts s (found_part segment (cond b (Some c) found))) (sym differs)
    ]

-- ---- the parts of one name in all modules

named_append : (name : List ℕ) (s : Segment) (ps qs : List (List ℕ × Segment))
    → parts_named name s (ps ++ qs) ≡ parts_named name (parts_named name s ps) qs
named_append name s [] qs = refl
named_append name s (p ∷ ps) qs = named_append name (cond (pointwise nat_eq p.0 name) (joined_parts s p.1) s) ps qs

all_named : (name : List ℕ) (part : ModuleValue → Segment)
    → ((m : ModuleValue) (s : Segment) → OncePart m → parts_named name s (parts_of_commons m) ≡ joined_parts s (part m))
    → (s : Segment) (ms : List ModuleValue) → AllByRecursion OncePart ms →
    parts_named name s (flat_map parts_of_commons ms) ≡ with_parts part s ms
all_named name part one s [] all = refl
all_named name part one s (m ∷ ms) all =
    named_append name s (parts_of_commons m) (flat_map parts_of_commons ms)
    ∙ ap (λ t. parts_named name t (flat_map parts_of_commons ms)) (one m s all.0)
    ∙ all_named name part one (joined_parts s (part m)) ms all.1

-- ---- the segments of the linked module

common_not_fixed : (id : ℕ) → 6 ≤ id → id < 255 → is_fixed_id id ≡ false
common_not_fixed id low high = grind (arith, nat_tests, low, high)

common_not_laid : (id : ℕ) → 6 ≤ id → is_laid_out id ≡ false
common_not_laid id low = grind (arith, nat_tests, low)

name_of_number : (start : ℕ) (names : List (List ℕ)) (k : ℕ) (name : List ℕ) → slice_get names k ≡ Some name
    → common_name (numbered start names) (start + k) ≡ name
name_of_number start [] k name at = absurd cc
name_of_number start (n ∷ ns) zero name at =
    ap (λ b. option_map_or (λ (c : Common). c.name)
    (cond b (Some (numbered_common (start, n))) (find (λ (c : Common). c.id == start + 0) (numbered (start + 1) ns))) [])
    (itself start) ∙ some_is n name at
  where
    itself : (s : ℕ) → (s == s + 0) ≡ true
    itself s = grind (arith, nat_tests)

    some_is : (a b : List ℕ) → Some a ≡ Some b → a ≡ b
    some_is a b e = cc
name_of_number start (n ∷ ns) (suc k) name at =
    ap (λ b. option_map_or (λ (c : Common). c.name)
    (cond b (Some (numbered_common (start, n))) (find (λ (c : Common). c.id == start + suc k) (numbered (start + 1) ns))) [])
    (ne_eqb start (start + suc k) (λ e. omega (arith, e)))
    ∙ ap (common_name (numbered (start + 1) ns)) (next start k)
    ∙ name_of_number (start + 1) ns k name at
  where
    next : (s j : ℕ) → s + suc j ≡ s + 1 + j
    next s j = omega arith

-- the segment of an id that goes by a name
pub common_segment_is : (modules : List ModuleValue) (id : ℕ) (name : List ℕ) → 6 ≤ id → id < 255
    → common_name (linked_commons modules) id ≡ name → AllByRecursion OncePart modules →
    parts_named name empty_segment (flat_map parts_of_commons modules) ≡ linked_segment modules id
common_segment_is modules id name low high called all =
    let part : ModuleValue → Segment = λ m. part_of (linked_commons modules) m id in
    all_named name part one empty_segment modules all
    ∙ parts_joined part empty_segment modules
    ∙ (λ j. record { length = size j; paged = list_any (λ m. (part m).paged) modules })
  where
    longest : ℕ
    longest = greatest (map (λ m. (part_of (linked_commons modules) m id).length) modules)

    size : max 0 longest ≡ linked_length modules id
    size = none_longer longest ∙ ap (λ b. cond b (parts_end id 0 modules) longest) (sym (common_not_laid id low))

    one : (m : ModuleValue) (s : Segment) → OncePart m
        → parts_named name s (parts_of_commons m) ≡ joined_parts s (part_of (linked_commons modules) m id)
    one m s once =
        one_part (segment_in m.segments) name s [] m.commons once
        ∙ ap (λ n. joined_parts s
        (found_part (segment_in m.segments) (find (λ (c : Common). pointwise nat_eq c.name n) m.commons))) (sym called)
        ∙ ap (λ b. joined_parts s
        (cond b (segment_in m.segments id)
        (found_part (segment_in m.segments)
        (find (λ (c : Common). pointwise nat_eq c.name (common_name (linked_commons modules) id)) m.commons))))
        (sym (common_not_fixed id low high))

entries_by : (segment : ℕ → Segment) (f : List ℕ → Segment) (start : ℕ) (names : List (List ℕ))
    → ((k : ℕ) (name : List ℕ) → k < length names → slice_get names k ≡ Some name → f name ≡ segment (start + k)) →
    enumerate_from start (map f names) ≡ map (λ id. (id, segment id)) (map (λ (c : Common). c.id) (numbered start names))
entries_by segment f start [] is = refl
entries_by segment f start (n ∷ ns) is =
    ap (λ s. (start, s) ∷ enumerate_from (start + 1) (map f ns)) (is 0 n (omega arith) refl ∙ ap segment (plus_none start))
    ∙ ap (λ l. (start, segment start) ∷ l)
    (entries_by segment f (start + 1) ns (λ k name within at. is (suc k) name (omega (arith, within)) at
    ∙ ap segment (next start k)))
  where
    plus_none : (s : ℕ) → s + 0 ≡ s
    plus_none s = omega arith

    next : (s j : ℕ) → s + suc j ≡ s + 1 + j
    next s j = omega arith

-- the segments of named commons, with their ids
pub common_entries : (modules : List ModuleValue) (segments : List Segment) → length (common_names modules) ≤ 249
    → AllByRecursion OncePart modules →
    segments ≡ with_named_parts (common_names modules) (map (λ _. empty_segment) (common_names modules))
    (flat_map parts_of_commons modules) →
    enumerate_from 6 segments ≡ map (λ id. (id, linked_segment modules id)) (map (λ c. c.id) (linked_commons modules))
common_entries modules segments few all are =
    let names : List (List ℕ) = common_names modules in
    let f : List ℕ → Segment = λ name. parts_named name empty_segment (flat_map parts_of_commons modules) in
    ap (enumerate_from 6) (are ∙ named_parts names (λ _. empty_segment) (flat_map parts_of_commons modules) (distinct_no_twice _))
    ∙ entries_by (linked_segment modules) f 6 names (λ k name within at.
    common_segment_is modules (6 + k) name (omega arith) (omega (arith, within, few)) (name_of_number 6 names k name at) all)

-- ---- a segment that every module has

pub fixed_part : (modules : List ModuleValue) (id : ℕ) → is_fixed_id id ≡ true →
    with_parts (λ m. segment_in m.segments id) empty_segment modules
    ≡ all_parts (λ m. part_of (linked_commons modules) m id) empty_segment modules
fixed_part modules id fixed =
    let named : ModuleValue → Segment =
    λ m. found_part (segment_in m.segments)
    (find (λ (c : Common). pointwise nat_eq c.name (common_name (linked_commons modules) id)) m.commons) in
    parts_joined (λ m. segment_in m.segments id) empty_segment modules
    ∙ ap (λ b. all_parts (λ m. cond b (segment_in m.segments id) (named m)) empty_segment modules) (sym fixed)

-- whose parts lie over one another
pub over_one_another : (modules : List ModuleValue) (id : ℕ) → is_fixed_id id ≡ true → is_laid_out id ≡ false
    → with_parts (λ m. segment_in m.segments id) empty_segment modules ≡ linked_segment modules id
over_one_another modules id fixed over =
    let longest : ℕ = greatest (map (λ m. (part_of (linked_commons modules) m id).length) modules) in
    let size : max 0 longest ≡ linked_length modules id = none_longer longest
    ∙ ap (λ b. cond b (parts_end id 0 modules) longest) (sym over) in
    fixed_part modules id fixed
    ∙ (λ j. record { length = size j; paged = list_any (λ m. (part_of (linked_commons modules) m id).paged) modules })

-- or one after another
pub one_after_another : (modules : List ModuleValue) (id end : ℕ) → is_fixed_id id ≡ true → is_laid_out id ≡ true
    → end ≡ parts_end id 0 modules → (s : Segment) →
    s ≡ with_parts (λ m. segment_in m.segments id) empty_segment modules → with_length end s ≡ linked_segment modules id
one_after_another modules id end fixed laid ends s is =
    let longest : ℕ = greatest (map (λ m. (part_of (linked_commons modules) m id).length) modules) in
    let size : end ≡ linked_length modules id = ends ∙ ap (λ b. cond b (parts_end id 0 modules) longest) (sym laid) in
    ap (with_length end) (is ∙ fixed_part modules id fixed)
    ∙ (λ j. record { length = size j; paged = list_any (λ m. (part_of (linked_commons modules) m id).paged) modules })

-- ---- steps of the loops

pub with_both_parts : (names : List (List ℕ)) (segments : List Segment) (ps qs : List (List ℕ × Segment)) →
    with_named_parts names (with_named_parts names segments ps) qs ≡ with_named_parts names segments (ps ++ qs)
with_both_parts names segments [] qs = refl
with_both_parts names segments (p ∷ ps) qs = with_both_parts names (with_part_at segments (number_in names p.0) p.1) ps qs

-- a module's commons keep their rule
pub once_part : (m : ModuleValue) → IsModule m → OncePart m
once_part m is = (sound_parts m is.sound).commons
