-- The linked module keeps the rules of modules.
use Rattle.std.specs.Prelude.{◌≡◌, ℕ, ◌+◌, ◌≤◌, ◌<◌, ◌==◌, nat_eq, nat_le, Bool, true, false, not, ◌&&◌, ◌||◌, Option, Some, None, is_none}
use Rattle.std.specs.Prelude.{option_map, List, [], ◌∷◌, ◌++◌, filter_map, find, map, length, slice_get, slice_index, refl, IsTrue}
use Rattle.std.specs.List.{list_all, list_any, cons_option, flat_map, enumerate_from, AllByRecursion}
use Rattle.std.specs.Cmp.Lexicographic.{pointwise}
use Rattle.std.proofs.Common.{◌∙◌, ap, sym, subst, arith, inl, inr, cond, eqb-true}
use Rattle.std.proofs.lemmas.Bool.{cases_Bool, and_parts, and_from, not_from_false, ne_eqb, lt-ltb, le-leb, ltb-true}
use Rattle.std.proofs.lemmas.Bool.Decides.{nat_tests}
use Rattle.std.proofs.lemmas.List.FromFn.{length-map-range_with_len}
use Rattle.omf_model.specs.declared.segment.Segment.{Segment}
use Rattle.omf_model.specs.declared.symbols.Common.{Common}
use Rattle.omf_model.specs.declared.symbols.Public.{Public}
use Rattle.omf_model.specs.declared.fixup.Fixup.{Fixup}
use Rattle.omf_model.specs.declared.fixup.Target.{Target}
use Rattle.omf_model.specs.declared.fixup.Target.TheVariants as target
use Rattle.omf_model.specs.Contents.{ContentValue}
use Rattle.omf_model.specs.Segments.{is_fixed_id, has_common_id, has_segment, segment_in}
use Rattle.omf_model.specs.Modules.{ModuleValue}
use Rattle.omf_model.specs.Rules.{each_after, is_new_entry, is_new_common, has_target, is_fitting, has_fitting, lies_within, is_in_bounds, is_content, end_of, is_start}
use Rattle.omf_model.specs.Patches.{byte_with}
use Rattle.omf_model.specs.Place.{common_name, is_laid_out, starts_from, part_start}
use Rattle.omf_model.specs.ImageByte.{name_at}
use Rattle.omf_model.specs.SoundModules.{LiesIn, HasItsFixups, SoundModulesKeepRules, CommonsByName}
use Rattle.link80.specs.Linked.{common_names, linked_commons, id_of, linked_id, moved, linked_public, linked_publics, public_of, unresolved}
use Rattle.link80.specs.Linked.{index_of, to_place, to_public, linked_reference, link_patch, linked_content, linked_contents, part_of}
use Rattle.link80.specs.Linked.{parts_end, greatest, linked_length, linked_segment, linked_ids, moved_start, starts, linked_parts, distinct}
use Rattle.link80.specs.LinkLaws.{LinkedModuleKeepsRules}
use Rattle.link80.proofs.ListLemmas.{all_both}
use Rattle.link80.proofs.NameLemmas.{has_name, distinct_has, passed_has, index_is}
use Rattle.link80.proofs.PlaceLemmas.{Listed, few_commons, common_found}
use Rattle.link80.proofs.ReferenceLemmas.{all_listed}
use Rattle.link80.proofs.LinkLemmas.{listed_from, few}
use Rattle.link80.proofs.SegmentLemmas.{new_entries, segment_listed, numbered_has, distinct_no_twice, new_commons, none_named, parts_fit, greatest_above, all_numbered, named_part}
use Rattle.link80.proofs.FittingLemmas.{Resolved, fitting_moved}

-- ---- tests of joined lists

all_append : {A : Type 0} (test : A → Bool) (xs ys : List A) → list_all test xs ≡ true → list_all test ys ≡ true
    → list_all test (xs ++ ys) ≡ true
all_append test [] ys first second = second
all_append test (x ∷ xs) ys first second =
    let parts = and_parts (test x) (list_all test xs) first in
    and_from (test x) (list_all test (xs ++ ys)) parts.0 (all_append test xs ys parts.1 second)

all_flat : {A B : Type 0} (P : A → Type 0) (test : B → Bool) (f : A → List B) → ((x : A) → P x → list_all test (f x) ≡ true)
    → (xs : List A) → AllByRecursion P xs → list_all test (flat_map f xs) ≡ true
all_flat P test f gives [] all = refl
all_flat P test f gives (x ∷ xs) all = all_append test (f x) (flat_map f xs) (gives x all.0) (all_flat P test f gives xs all.1)

all_mapped : {A B : Type 0} (P : A → Type 0) (test : B → Bool) (f : A → B) → ((x : A) → P x → test (f x) ≡ true) → (xs : List A)
    → AllByRecursion P xs → list_all test (map f xs) ≡ true
all_mapped P test f gives [] all = refl
all_mapped P test f gives (x ∷ xs) all =
    and_from (test (f x)) (list_all test (map f xs)) (gives x all.0) (all_mapped P test f gives xs all.1)

found_passes : {A : Type 0} (passes test : A → Bool) (xs : List A) (x : A) → list_all passes xs ≡ true → find test xs ≡ Some x
    → passes x ≡ true
found_passes passes test [] x all is = absurd cc
found_passes {A} passes test (y ∷ ys) x all is =
    let parts = and_parts (passes y) (list_all passes ys) all in
    (elim (test y) as (λ b. cond b (Some y) (find test ys) ≡ Some x → passes x ≡ true) [
      | true ↦ λ here. let same : y ≡ x = some_is y x here in subst (λ z. passes z ≡ true) same parts.0
      | false ↦ λ later. found_passes passes test ys x parts.1 later
    ]) is
  where
    some_is : (a b : A) → Some a ≡ Some b → a ≡ b
    some_is a b e = cc

later : (a b : Bool) → b ≡ true → (a || b) ≡ true
later true b e = refl
later false b e = e

-- ---- segments of the linked module

linked_there : (modules : List ModuleValue) (m : ModuleValue) (id : ℕ) → Listed modules m → has_segment m.commons id ≡ true
    → has_segment (linked_commons modules) (linked_id modules m id) ≡ true
linked_there modules m id listed has = elim (cases_Bool (is_fixed_id id)) [
  | inl fixed ↦
      ap (λ b. has_segment (linked_commons modules) (cond b id (id_of (linked_commons modules) (common_name m.commons id)))) fixed
      ∙ ap (λ b. b || has_common_id (linked_commons modules) id) fixed
  | inr named ↦
      let is_named : has_common_id m.commons id ≡ true = sym (ap (λ b. b || has_common_id m.commons id) named) ∙ has in
      let found = common_found modules m id listed is_named in
      let new : ℕ = id_of (linked_commons modules) (common_name m.commons id) in
      ap (λ b. has_segment (linked_commons modules) (cond b id new)) named
      ∙ later (is_fixed_id new) (has_common_id (linked_commons modules) new) found.there
]

public_there : (modules : List ModuleValue) → all_listed modules (enumerate_from 0 modules)
    → list_all (λ (p : Public). has_segment (linked_commons modules) p.segment) (linked_publics modules) ≡ true
public_there modules all =
    all_flat (λ (m : ℕ × ModuleValue). Listed modules m.1) (λ (p : Public). has_segment (linked_commons modules) p.segment)
    (λ (m : ℕ × ModuleValue). map (linked_public modules m) m.1.publics)
    (λ m listed. all_mapped (λ (p : Public). has_segment m.1.commons p.segment ≡ true)
    (λ (p : Public). has_segment (linked_commons modules) p.segment) (linked_public modules m)
    (λ p has. linked_there modules m.1 p.segment listed has) m.1.publics listed.rules.publics) (enumerate_from 0 modules) all

-- ---- starts

all_starts : (modules : List ModuleValue) (ms : List (ℕ × ModuleValue)) → all_listed modules ms
    → list_all (λ (s : ℕ × ℕ). has_segment (linked_commons modules) s.0)
    (filter_map (λ m. option_map (moved_start modules m) m.1.start) ms) ≡ true
all_starts modules [] all = refl
all_starts modules (m ∷ ms) all =
    let rest : List (ℕ × ℕ) = filter_map (λ m. option_map (moved_start modules m) m.1.start) ms in
    let others : list_all (λ (s : ℕ × ℕ). has_segment (linked_commons modules) s.0) rest ≡ true = all_starts modules ms all.1 in
    (elim m.1.start as (λ o. is_start m.1.commons o ≡ true
    → list_all (λ (s : ℕ × ℕ). has_segment (linked_commons modules) s.0)
    (cons_option (option_map (moved_start modules m) o) rest) ≡ true) [
      | None ↦ λ _. others
      | Some s ↦ λ has. and_from (has_segment (linked_commons modules) (linked_id modules m.1 s.0))
          (list_all (λ (s : ℕ × ℕ). has_segment (linked_commons modules) s.0) rest)
          (linked_there modules m.1 s.0 all.0 has) others
    ]) all.0.rules.start

first_start : (commons : List Common) (ss : List (ℕ × ℕ)) → list_all (λ (s : ℕ × ℕ). has_segment commons s.0) ss ≡ true
    → is_start commons (slice_get ss 0) ≡ true
first_start commons [] all = refl
first_start commons (s ∷ ss) all =
    (and_parts (has_segment commons s.0) (list_all (λ (t : ℕ × ℕ). has_segment commons t.0) ss) all).0

-- ---- targets

place_there : (commons : List Common) (externals id offset : ℕ) (t : Target) → has_segment commons id ≡ true
    → (to_place id offset).target ≡ Some t → has_target commons externals t ≡ true
place_there commons externals id offset t has is =
    (elim (id == 0) as (λ b. cond b None (Some (target.Segment id)) ≡ Some t → has_target commons externals t ≡ true) [
      | true ↦ λ none. absurd (none_is_some t none)
      | false ↦ λ some. subst (λ u. has_target commons externals u ≡ true) (some_is (target.Segment id) t some) has
    ]) is
  where
    some_is : (a b : Target) → Some a ≡ Some b → a ≡ b
    some_is a b e = cc

    none_is_some : (a : Target) → None ≡ Some a → ⊥
    none_is_some a e = cc

external_there : (modules : List ModuleValue) (name : List ℕ) (o : Option Public) (t : Target)
    → all_listed modules (enumerate_from 0 modules) → public_of modules name ≡ o
    → has_name (flat_map (λ (m : ModuleValue). m.externals) modules) name ≡ true →
    (to_public modules name o).target ≡ Some t → has_target (linked_commons modules) (length (unresolved modules)) t ≡ true
external_there modules name (Some p) t all found here is =
    place_there (linked_commons modules) (length (unresolved modules)) p.segment p.offset t
    (found_passes (λ (p : Public). has_segment (linked_commons modules) p.segment) (λ (p : Public). pointwise nat_eq p.name name)
    (linked_publics modules) p (public_there modules all) found) is
external_there modules name None t all found here is =
    let there : has_name (unresolved modules) name ≡ true =
    passed_has (λ n. is_none (public_of modules n)) (distinct (flat_map (λ (m : ModuleValue). m.externals) modules)) name
    (ap (λ (o : Option Public). is_none o) found)
    (distinct_has (flat_map (λ (m : ModuleValue). m.externals) modules) name here) in
    subst (λ u. has_target (linked_commons modules) (length (unresolved modules)) u ≡ true)
    (some_is (target.External (index_of (unresolved modules) name)) t is)
    (lt-ltb (index_of (unresolved modules) name) (length (unresolved modules)) (index_is (unresolved modules) name there).0)
  where
    some_is : (a b : Target) → Some a ≡ Some b → a ≡ b
    some_is a b e = cc

target_there : (modules : List ModuleValue) (m : ℕ × ModuleValue) (t u : Target) → all_listed modules (enumerate_from 0 modules)
    → Listed modules m.1 → has_target m.1.commons (length m.1.externals) t ≡ true →
    (linked_reference modules m t).target ≡ Some u → has_target (linked_commons modules) (length (unresolved modules)) u ≡ true
target_there modules m (target.Segment id) u all listed has is =
    place_there (linked_commons modules) (length (unresolved modules)) (linked_id modules m.1 id) (moved modules m.0 id 0) u
    (linked_there modules m.1 id listed has) is
target_there modules m (target.External index) u all listed has is =
    external_there modules (name_at m.1.externals index) (public_of modules (name_at m.1.externals index)) u all refl
    (listed.externals index (ltb-true index (length m.1.externals) has)) is

targets_there : (modules : List ModuleValue) (m : ℕ × ModuleValue) → all_listed modules (enumerate_from 0 modules)
    → Listed modules m.1 → (fs : List Fixup)
    → AllByRecursion (λ f. IsTrue (has_target m.1.commons (length m.1.externals) f.target)) fs →
    AllByRecursion (Resolved (linked_commons modules) (length (unresolved modules))
    (λ f. (linked_reference modules m f.target).target)) fs
targets_there modules m all listed [] has = tt
targets_there modules m all listed (f ∷ fs) has = (
  record { there = λ u is. target_there modules m f.target u all listed has.0 is },
  targets_there modules m all listed fs
      has.1,
)

-- ---- where a content lies

-- the parts of a module lie in the linked segments
pub record PartsFit (modules : List ModuleValue) (m : ℕ × ModuleValue) : Type 0 where
  pub laid : (id : ℕ) → slice_index (starts_from id 0 modules) m.0 + (segment_in m.1.segments id).length ≤ parts_end id 0 modules
  pub over : (id : ℕ) → (part_of (linked_commons modules) m.1 id).length ≤ greatest
      (map (λ m. (part_of (linked_commons modules) m id).length) modules)

each_fits : (modules : List ModuleValue) (ms : List (ℕ × ModuleValue)) →
    ((id : ℕ) → AllByRecursion
    (λ (m : ℕ × ModuleValue). slice_index (starts_from id 0 modules) m.0 +
    (segment_in m.1.segments id).length ≤ parts_end id 0 modules) ms) →
    ((id : ℕ) → AllByRecursion
    (λ (m : ℕ × ModuleValue). (part_of (linked_commons modules) m.1 id).length ≤ greatest
    (map (λ m. (part_of (linked_commons modules) m id).length) modules)) ms) →
    AllByRecursion (PartsFit modules) ms
each_fits modules [] laid over = tt
each_fits modules (m ∷ ms) laid over =
    (record { laid = λ id. (laid id).0; over = λ id. (over id).0 }, each_fits modules ms (λ id. (laid id).1) (λ id. (over id).1))

pub all_fit : (modules : List ModuleValue) → AllByRecursion (PartsFit modules) (enumerate_from 0 modules)
all_fit modules =
    each_fits modules (enumerate_from 0 modules)
    (λ id. parts_fit id 0 modules (λ k. slice_index (starts_from id 0 modules) k) 0 (parts_end id 0 modules)
    (λ k below. ap (λ n. slice_index (starts_from id 0 modules) n) (from_zero k)) refl)
    (λ id. all_numbered (λ m.
    (part_of (linked_commons modules) m id).length ≤ greatest
    (map (λ m. (part_of (linked_commons modules) m id).length) modules)) 0 modules
    (greatest_above (λ m. (part_of (linked_commons modules) m id).length) modules))
  where
    from_zero : (k : ℕ) → 0 + k ≡ k
    from_zero k = omega arith

common_listed : (commons : List Common) (id : ℕ) → has_common_id commons id ≡ true
    → list_any (λ i. i == id) (map (λ (c : Common). c.id) commons) ≡ true
common_listed [] id named = absurd cc
common_listed (c ∷ cs) id named =
    (elim (c.id == id) as (λ b. (b || has_common_id cs id) ≡ true
    → (b || list_any (λ i. i == id) (map (λ (d : Common). d.id) cs)) ≡ true) [
      | true ↦ λ _. refl
      | false ↦ λ there. common_listed cs id there
    ]) named

fixed_listed : (id : ℕ) (rest : Bool) → is_fixed_id id ≡ true → (id == 0) ≡ false
    → (1 == id || (2 == id || (3 == id || (4 == id || (255 == id || rest))))) ≡ true
fixed_listed id rest fixed other = grind (arith, nat_tests, fixed, other)

five_later : (a b c d e rest : Bool) → rest ≡ true → (a || (b || (c || (d || (e || rest))))) ≡ true
five_later a b c d e rest h =
    later a (b || (c || (d || (e || rest))))
    (later b (c || (d || (e || rest))) (later c (d || (e || rest)) (later d (e || rest) (later e rest h))))

high_not_laid : (id : ℕ) → 6 ≤ id → is_laid_out id ≡ false
high_not_laid id high = grind (arith, nat_tests, high)

-- the end of a linked segment
linked_end : (name : List ℕ) (modules : List ModuleValue) (id : ℕ) → (id == 0) ≡ false
    → list_any (λ i. i == id) (linked_ids modules) ≡ true
    → end_of (linked_parts name modules).segments id ≡ linked_length modules id
linked_end name modules id other listed =
    ap (λ b. cond b 65536 (segment_in (linked_parts name modules).segments id).length) other
    ∙ ap (λ (s : Segment). s.length) (segment_listed (linked_segment modules) (linked_ids modules) id listed)

holds : CommonsByName → (name : List ℕ) (modules : List ModuleValue) (m : ℕ × ModuleValue) (id reach : ℕ) → few_commons modules
    → Listed modules m.1 → PartsFit modules m → has_segment m.1.commons id ≡ true → (id == 3) ≡ false
    → reach ≤ end_of m.1.segments id →
    reach + part_start modules m.0 id ≤ end_of (linked_parts name modules).segments (linked_id modules m.1 id)
holds by_name name modules m id reach few listed fits has not_stack within = elim (cases_Bool (id == 0)) [
  | inl e ↦
      let zero_in : reach ≤ 65536 = subst (λ i. reach ≤ end_of m.1.segments i) (eqb-true id 0 e) within in
      subst (λ i. reach + part_start modules m.0 i ≤ end_of (linked_parts name modules).segments (linked_id modules m.1 i))
      (sym (eqb-true id 0 e)) (plain reach 65536 zero_in)
  | inr other ↦
      let size : ℕ = (segment_in m.1.segments id).length in
      let limit : end_of m.1.segments id ≡ size = ap (λ b. cond b 65536 size) other in
      let inside : reach ≤ size = subst (λ n. reach ≤ n) limit within in
      let start : ℕ = part_start modules m.0 id in
      let new : ℕ = linked_id modules m.1 id in
      let laid_start : ℕ = slice_index (starts_from id 0 modules) m.0 in
      let longest : ℕ = greatest (map (λ k. (part_of (linked_commons modules) k new).length) modules) in
      elim (cases_Bool (is_fixed_id id)) [
        | inl fixed ↦
            let same : new ≡ id = ap (λ b. cond b id (id_of (linked_commons modules) (common_name m.1.commons id))) fixed in
            let ends : end_of (linked_parts name modules).segments new ≡ linked_length modules id =
            ap (end_of (linked_parts name modules).segments) same
            ∙ linked_end name modules id other
            (fixed_listed id (list_any (λ i. i == id) (map (λ (c : Common). c.id) (linked_commons modules))) fixed other) in
            elim (cases_Bool (is_laid_out id)) [
              | inl laid ↦
                  let at : start ≡ laid_start = ap (λ b. cond b laid_start 0) laid in
                  let long : linked_length modules id ≡ parts_end id 0 modules =
                  ap (λ b. cond b (parts_end id 0 modules)
                  (greatest (map (λ k. (part_of (linked_commons modules) k id).length) modules))) laid in
                  let fit : laid_start + size ≤ parts_end id 0 modules = fits.laid id in
                  omega (arith, ends, at, long, fit, inside)
              | inr not_laid ↦
                  let at : start ≡ 0 = ap (λ b. cond b laid_start 0) not_laid in
                  let long : linked_length modules id
                  ≡ greatest (map (λ k. (part_of (linked_commons modules) k id).length) modules) =
                  ap (λ b. cond b (parts_end id 0 modules)
                  (greatest (map (λ k. (part_of (linked_commons modules) k id).length) modules))) not_laid in
                  let part : (part_of (linked_commons modules) m.1 id).length ≡ size =
                  part_fixed (linked_commons modules) m.1 id fixed in
                  let fit : (part_of (linked_commons modules) m.1 id).length ≤ greatest
                  (map (λ k. (part_of (linked_commons modules) k id).length) modules) = fits.over id in
                  omega (arith, ends, at, long, part, fit, inside)
            ]
        | inr named ↦
            let is_named : has_common_id m.1.commons id ≡ true = sym (ap (λ b. b || has_common_id m.1.commons id) named) ∙ has in
            let found = common_found modules m.1 id listed is_named in
            let numbered : ℕ = id_of (linked_commons modules) (common_name m.1.commons id) in
            let same : new ≡ numbered = ap (λ b. cond b id numbered) named in
            let low : 6 ≤ new = subst (λ n. 6 ≤ n) (sym same) found.least in
            let most : numbered < 6 + length (common_names modules) = found.most in
            let high : new < 255 = omega (arith, same, most, few) in
            let ends : end_of (linked_parts name modules).segments new ≡ linked_length modules new =
            linked_end name modules new (ne_eqb new 0 (λ z. omega (arith, z, low)))
            (five_later (1 == new) (2 == new) (3 == new) (4 == new) (255 == new)
            (list_any (λ i. i == new) (map (λ (c : Common). c.id) (linked_commons modules)))
            (common_listed (linked_commons modules) new (ap (has_common_id (linked_commons modules)) same ∙ found.there))) in
            let long : linked_length modules new ≡ longest =
            ap (λ b. cond b (parts_end new 0 modules) longest) (high_not_laid new low) in
            let at : start ≡ 0 = ap (λ b. cond b laid_start 0) (not_fixed_not_laid id named) in
            let part : (part_of (linked_commons modules) m.1 new).length ≡ size =
            named_part by_name (linked_commons modules) m.1 id new listed.rules.commons is_named (common_not_fixed new low high)
            (ap (common_name (linked_commons modules)) same ∙ found.called) in
            let fit : (part_of (linked_commons modules) m.1 new).length ≤ longest = fits.over new in
            omega (arith, ends, at, long, part, fit, inside)
      ]
]
  where
    plain : (n limit : ℕ) → n ≤ limit → n + 0 ≤ limit
    plain n limit h = omega (arith, h)

    part_fixed : (commons : List Common) (m : ModuleValue) (id : ℕ) → is_fixed_id id ≡ true
        → (part_of commons m id).length ≡ (segment_in m.segments id).length
    part_fixed commons m id fixed = rw fixed refl

    not_fixed_not_laid : (id : ℕ) → is_fixed_id id ≡ false → is_laid_out id ≡ false
    not_fixed_not_laid id named = grind (arith, nat_tests, named)

    common_not_fixed : (id : ℕ) → 6 ≤ id → id < 255 → is_fixed_id id ≡ false
    common_not_fixed id low high = grind (arith, nat_tests, low, high)

-- a linked content isn't in STACK
not_stack_linked : (modules : List ModuleValue) (m : ModuleValue) (id : ℕ) → Listed modules m → has_segment m.commons id ≡ true
    → (id == 3) ≡ false → (linked_id modules m id == 3) ≡ false
not_stack_linked modules m id listed has not_stack = elim (cases_Bool (is_fixed_id id)) [
  | inl fixed ↦ ap (λ b. cond b id (id_of (linked_commons modules) (common_name m.commons id)) == 3) fixed ∙ not_stack
  | inr named ↦
      let is_named : has_common_id m.commons id ≡ true = sym (ap (λ b. b || has_common_id m.commons id) named) ∙ has in
      let found = common_found modules m id listed is_named in
      let new : ℕ = id_of (linked_commons modules) (common_name m.commons id) in
      let low : 6 ≤ new = found.least in
      ap (λ b. cond b id new == 3) named ∙ ne_eqb new 3 (λ e. omega (arith, e, low))
]

content_kept : CommonsByName → (name : List ℕ) (modules : List ModuleValue) (m : ℕ × ModuleValue) (c : ContentValue)
    → few_commons modules → all_listed modules (enumerate_from 0 modules) → Listed modules m.1 → PartsFit modules m → LiesIn m.1 c
    → HasItsFixups m.1 c →
    is_content (linked_parts name modules).segments (linked_commons modules) (length (unresolved modules))
    (linked_content modules m c) ≡ true
content_kept by_name name modules m c few all listed fits lies fixups =
    let d : ContentValue = linked_content modules m c in
    let segments : List (ℕ × Segment) = (linked_parts name modules).segments in
    let commons : List Common = linked_commons modules in
    let start : ℕ = part_start modules m.0 c.segment in
    let long : length d.bytes ≡ length c.bytes =
    length-map-range_with_len (byte_with (map (link_patch modules m c) c.fixups) c.bytes) 0 (length c.bytes) in
    let reach : c.offset + length c.bytes + start ≤ end_of segments d.segment =
    holds by_name name modules m c.segment (c.offset + length c.bytes) few listed fits lies.has lies.not_stack lies.within in
    let short : length c.bytes ≤ 65531 = lies.in_record in
    let has : has_segment commons d.segment ≡ true = linked_there modules m.1 c.segment listed lies.has in
    let other : not (d.segment == 3) ≡ true =
    not_from_false (d.segment == 3) (not_stack_linked modules m.1 c.segment listed lies.has lies.not_stack) in
    let inside : nat_le (d.offset + length d.bytes) (end_of segments d.segment) ≡ true =
    le-leb (d.offset + length d.bytes) (end_of segments d.segment) (omega (arith, long, reach)) in
    let fitting : has_fitting commons (length (unresolved modules)) d ≡ true =
    ap (λ n. each_after (is_fitting commons (length (unresolved modules)) (c.offset + start) n) [] d.fixups) long
    ∙ fitting_moved m.1.commons commons (length m.1.externals) (length (unresolved modules)) c.offset (length c.bytes) start
    (λ f. (linked_reference modules m f.target).target) [] c.fixups fixups.fitting
    (targets_there modules m all listed c.fixups fixups.targets) in
    and_from (is_in_bounds segments commons d) (has_fitting commons (length (unresolved modules)) d)
    (and_from (lies_within segments commons d) (nat_le (length d.bytes) 65531)
    (and_from (has_segment commons d.segment && not (d.segment == 3))
    (nat_le (d.offset + length d.bytes) (end_of segments d.segment))
    (and_from (has_segment commons d.segment) (not (d.segment == 3)) has other) inside)
    (le-leb (length d.bytes) 65531 (omega (arith, long, short))))
    fitting

contents_kept : CommonsByName → (name : List ℕ) (modules : List ModuleValue) → few_commons modules
    → all_listed modules (enumerate_from 0 modules) →
    list_all (is_content (linked_parts name modules).segments (linked_commons modules) (length (unresolved modules)))
    (linked_contents modules) ≡ true
contents_kept by_name name modules few all =
    let test : ContentValue → Bool =
    is_content (linked_parts name modules).segments (linked_commons modules) (length (unresolved modules)) in
    all_flat (λ (m : ℕ × ModuleValue). Listed modules m.1 × PartsFit modules m) test
    (λ (m : ℕ × ModuleValue). map (linked_content modules m) m.1.contents)
    (λ m here. all_mapped (λ c. LiesIn m.1 c × HasItsFixups m.1 c) test (linked_content modules m)
    (λ c good. content_kept by_name name modules m c few all here.0 here.1 good.0 good.1) m.1.contents
    (all_both (LiesIn m.1) (HasItsFixups m.1) m.1.contents here.0.rules.contents here.0.rules.fixups)) (enumerate_from 0 modules)
    (all_both (λ (m : ℕ × ModuleValue). Listed modules m.1) (PartsFit modules) (enumerate_from 0 modules) all (all_fit modules))

-- ---- all rules

pub linked_keeps_rules : SoundModulesKeepRules → CommonsByName → LinkedModuleKeepsRules
linked_keeps_rules rules by_name name modules are_modules no_fault =
    let number : few_commons modules = few modules no_fault in
    let all : all_listed modules (enumerate_from 0 modules) = listed_from rules modules [] modules 0 refl are_modules in
    let commons : List Common = linked_commons modules in
    let names : List (List ℕ) = common_names modules in
    let segments : List (ℕ × Segment) = (linked_parts name modules).segments in
    let five : List (ℕ × Segment) = map (λ id. (id, linked_segment modules id)) (1 ∷ 2 ∷ 3 ∷ 4 ∷ 255 ∷ []) in
    let room : 6 + length names ≤ 255 = omega (arith, number) in
    let entries : each_after (is_new_entry commons) [] segments ≡ true =
    new_entries (linked_segment modules) commons 6 names five room (λ i low high. numbered_has 6 names i low high) refl in
    let own : each_after is_new_common [] commons ≡ true =
    new_commons 6 names [] (omega arith) room refl (none_named names) (distinct_no_twice _) in
    let publics : list_all (λ (p : Public). has_segment commons p.segment) (linked_publics modules) ≡ true =
    public_there modules all in
    let contents : list_all (is_content segments commons (length (unresolved modules))) (linked_contents modules) ≡ true =
    contents_kept by_name name modules number all in
    let start : is_start commons (slice_get (starts modules) 0) ≡ true =
    first_start commons (starts modules) (all_starts modules (enumerate_from 0 modules) all) in
    and_from (each_after (is_new_entry commons) [] segments) _ entries
    (and_from _ (is_start commons (slice_get (starts modules) 0))
    (and_from _ (list_all (is_content segments commons (length (unresolved modules))) (linked_contents modules))
    (and_from (each_after is_new_common [] commons)
    (list_all (λ (p : Public). has_segment commons p.segment) (linked_publics modules)) own publics) contents) start)
