-- What a reference adds at LINK and at LOCATE adds up to its target's place.
use Rattle.std.specs.Prelude.{◌≡◌, ℕ, ◌+◌, ◌%◌, ◌==◌, nat_eq, true, Option, Some, None, is_none, option_map, unwrap_or, List, [], ◌∷◌, length, map, refl, IsTrue}
use Rattle.std.specs.List.{flat_map, enumerate_from, AllByRecursion}
use Rattle.std.specs.Option.{option_map_or}
use Rattle.std.specs.Cmp.Lexicographic.{pointwise}
use Rattle.std.proofs.Common.{◌∙◌, ap, sym, subst, arith, inl, inr, cond, eqb-true}
use Rattle.std.proofs.lemmas.Bool.{cases_Bool, ltb-true}
use Rattle.std.proofs.lemmas.List.{append-nil}
use Rattle.omf_model.specs.declared.symbols.Public.{Public}
use Rattle.omf_model.specs.declared.fixup.Target.{Target}
use Rattle.omf_model.specs.declared.fixup.Target.TheVariants as target
use Rattle.omf_model.specs.Modules.{ModuleValue}
use Rattle.omf_model.specs.Segments.{has_segment}
use Rattle.omf_model.specs.Rules.{has_target}
use Rattle.omf_model.specs.Place.{Bases, word_of, base_of, part_start, place_in}
use Rattle.omf_model.specs.ImageByte.{PlacedName, placed_public, placed_publics, name_word, name_at, target_word}
use Rattle.omf_model.specs.SoundModules.{PartsOfOneStartAtZero}
use Rattle.link80.specs.Linked.{linked_id, moved, linked_public, linked_publics, public_of, unresolved, index_of, to_place, to_public, linked_reference, linked, distinct}
use Rattle.link80.proofs.ListLemmas.{map_map, map_flat, flat_same, map_same, find_map, map_or_map}
use Rattle.link80.proofs.NameLemmas.{has_name, distinct_has, passed_has, index_is}
use Rattle.link80.proofs.PlaceLemmas.{Listed, few_commons, by_base, place_same}

-- the word that LOCATE adds to what is left of a reference, and 0 where nothing is left
abbrev pub second_word : Bases → ModuleValue → Option Target → Option ℕ
second_word bases l t = option_map (target_word bases (l ∷ []) (0, l)) t

-- ---- to a place

add_to_top : (top o : ℕ) → (top + o) % 65536 % 65536 ≡ (o + (top + 0) % 65536) % 65536
add_to_top top o = omega arith

add_to_base : (b o : ℕ) → (b + o) % 65536 % 65536 ≡ (o + (b + 0) % 65536) % 65536
add_to_base b o = omega arith

alone : (n : ℕ) → n % 65536 ≡ (n + 0) % 65536
alone n = omega arith

pub place_adds_up : (bases : Bases) (l : ModuleValue) (id offset : ℕ) →
    place_in bases (l ∷ []) 0 l id offset % 65536
    ≡ ((to_place id offset).word + unwrap_or (second_word bases l (to_place id offset).target) 0) % 65536
place_adds_up bases l id offset = elim (cases_Bool (id == 0)) [
  | inl e ↦ subst (λ i. place_in bases (l ∷ []) 0 l i offset % 65536
      ≡ (offset + unwrap_or (second_word bases l (to_place i offset).target) 0) % 65536) (sym (eqb-true id 0 e)) (alone offset)
  | inr not_absolute ↦ elim (cases_Bool (id == 3)) [
    | inl e ↦ subst (λ i. place_in bases (l ∷ []) 0 l i offset % 65536
        ≡ (offset + unwrap_or (second_word bases l (to_place i offset).target) 0) % 65536) (sym (eqb-true id 3 e))
        (add_to_top bases.top offset)
    | inr not_stack ↦
        let base : ℕ = base_of bases l id + part_start (l ∷ []) 0 id in
        ap (λ n. n % 65536) (by_base bases (l ∷ []) 0 l id offset not_absolute not_stack)
        ∙ add_to_base base offset
        ∙ ap (λ n. (offset + n) % 65536) (sym (by_base bases (l ∷ []) 0 l id 0 not_absolute not_stack))
        ∙ ap (λ b. (offset + unwrap_or (second_word bases l (cond b None (Some (target.Segment id)))) 0) % 65536)
        (sym not_absolute)
  ]
]

-- ---- publics

abbrev pub linked_place : List ℕ → List ModuleValue → Bases → Public → PlacedName
linked_place name modules bases p = placed_public bases (linked name modules ∷ []) (0, linked name modules) p

public_same : PartsOfOneStartAtZero
    → (name : List ℕ) (modules : List ModuleValue) (bases : Bases) (m : ℕ × ModuleValue) (p : Public) → few_commons modules
    → Listed modules m.1 → has_segment m.1.commons p.segment ≡ true →
    linked_place name modules bases (linked_public modules m p) ≡ placed_public bases modules m p
public_same zero_start name modules bases m p few listed has =
    ap (λ (w : ℕ). record { name = p.name; word = w })
    (place_same zero_start name modules m.0 m.1 bases p.segment p.offset few listed has)

publics_of_module : PartsOfOneStartAtZero → (name : List ℕ) (modules : List ModuleValue) (bases : Bases) (m : ℕ × ModuleValue)
    → few_commons modules → Listed modules m.1 →
    map (linked_place name modules bases) (map (linked_public modules m) m.1.publics)
    ≡ map (placed_public bases modules m) m.1.publics
publics_of_module zero_start name modules bases m few listed =
    map_map (linked_place name modules bases) (linked_public modules m) m.1.publics
    ∙ map_same (λ p. has_segment m.1.commons p.segment ≡ true) (λ p. linked_place name modules bases (linked_public modules m p))
    (placed_public bases modules m)
    (λ p has. public_same zero_start name modules bases m p few listed has) m.1.publics listed.rules.publics

abbrev pub all_listed : List ModuleValue → List (ℕ × ModuleValue) → Type 0
all_listed modules ms = AllByRecursion (λ m. Listed modules m.1) ms

pub publics_same : PartsOfOneStartAtZero → (name : List ℕ) (modules : List ModuleValue) (bases : Bases) → few_commons modules
    → all_listed modules (enumerate_from 0 modules) →
    map (linked_place name modules bases) (linked_publics modules) ≡ placed_publics bases modules
publics_same zero_start name modules bases few listed =
    map_flat (linked_place name modules bases) (λ (m : ℕ × ModuleValue). map (linked_public modules m) m.1.publics)
    (enumerate_from 0 modules)
    ∙ flat_same (λ (m : ℕ × ModuleValue). Listed modules m.1)
    (λ m. map (linked_place name modules bases) (map (linked_public modules m) m.1.publics))
    (λ m. map (placed_public bases modules m) m.1.publics)
    (λ m here. publics_of_module zero_start name modules bases m few here) (enumerate_from 0 modules) listed

-- what a name stands for
by_public : (name : List ℕ) (modules : List ModuleValue) (bases : Bases) (looked : List ℕ) →
    name_word bases (map (linked_place name modules bases) (linked_publics modules)) looked
    ≡ option_map_or (λ (p : Public). (linked_place name modules bases p).word) (public_of modules looked)
    (word_of bases.words looked)
by_public name modules bases looked =
    ap (λ (o : Option PlacedName). option_map_or (λ (p : PlacedName). p.word) o (word_of bases.words looked))
    (find_map (linked_place name modules bases) (λ (p : PlacedName). pointwise nat_eq p.name looked) (linked_publics modules))
    ∙ map_or_map (λ (p : PlacedName). p.word) (linked_place name modules bases) (public_of modules looked)
    (word_of bases.words looked)

-- ---- any reference

external_adds_up : (name : List ℕ) (modules : List ModuleValue) (bases : Bases) (looked : List ℕ) (o : Option Public)
    → public_of modules looked ≡ o →
    has_name (flat_map (λ (m : ModuleValue). m.externals) modules) looked ≡ true →
    option_map_or (λ (p : Public). (linked_place name modules bases p).word) o (word_of bases.words looked) % 65536
    ≡ ((to_public modules looked o).word + unwrap_or
    (second_word bases (linked name modules) (to_public modules looked o).target) 0) % 65536
external_adds_up name modules bases looked (Some p) is here = place_adds_up bases (linked name modules) p.segment p.offset
external_adds_up name modules bases looked None is here =
    let l : ModuleValue = linked name modules in
    let there : has_name (unresolved modules) looked ≡ true =
    passed_has (λ n. is_none (public_of modules n)) (distinct (flat_map (λ (m : ModuleValue). m.externals) modules)) looked
    (ap (λ (o : Option Public). is_none o) is)
    (distinct_has (flat_map (λ (m : ModuleValue). m.externals) modules) looked here) in
    let called : name_at (unresolved modules) (index_of (unresolved modules) looked) ≡ looked =
    (index_is (unresolved modules) looked there).1 in
    let found : name_word bases (placed_publics bases (l ∷ [])) looked ≡ word_of bases.words looked =
    ap (λ (ps : List PlacedName). name_word bases ps looked)
    (append-nil (map (linked_place name modules bases) (linked_publics modules)))
    ∙ by_public name modules bases looked
    ∙ ap (λ (o : Option Public). option_map_or (λ (p : Public). (linked_place name modules bases p).word) o
    (word_of bases.words looked)) is in
    ap (λ (n : ℕ). n % 65536) (sym found ∙ ap (name_word bases (placed_publics bases (l ∷ []))) (sym called)
    ∙ after_zero (name_word bases (placed_publics bases (l ∷ []))
    (name_at (unresolved modules) (index_of (unresolved modules) looked))))
  where
    after_zero : (n : ℕ) → n ≡ 0 + n
    after_zero n = omega arith

pub reference_adds_up : PartsOfOneStartAtZero
    → (name : List ℕ) (modules : List ModuleValue) (bases : Bases) (m : ℕ × ModuleValue) (t : Target) → few_commons modules
    → all_listed modules (enumerate_from 0 modules) → Listed modules m.1 →
    IsTrue (has_target m.1.commons (length m.1.externals) t) →
    target_word bases modules m t % 65536
    ≡ ((linked_reference modules m t).word + unwrap_or
    (second_word bases (linked name modules) (linked_reference modules m t).target) 0) % 65536
reference_adds_up zero_start name modules bases m (target.Segment id) few all listed has =
    ap (λ (n : ℕ). n % 65536) (sym (place_same zero_start name modules m.0 m.1 bases id 0 few listed has))
    ∙ place_adds_up bases (linked name modules) (linked_id modules m.1 id) (moved modules m.0 id 0)
reference_adds_up zero_start name modules bases m (target.External index) few all listed has =
    let looked : List ℕ = name_at m.1.externals index in
    ap (λ (ps : List PlacedName). name_word bases ps looked % 65536) (sym (publics_same zero_start name modules bases few all))
    ∙ ap (λ (n : ℕ). n % 65536) (by_public name modules bases looked)
    ∙ external_adds_up name modules bases looked (public_of modules looked) refl
    (listed.externals index (ltb-true index (length m.1.externals) has))
