-- Places in the linked module are those of its modules.
use Rattle.std.specs.Prelude.{◌≡◌, ℕ, ◌+◌, ◌%◌, ◌≤◌, ◌<◌, ◌==◌, Bool, true, false, ◌||◌, List, [], ◌∷◌, length, refl}
use Rattle.std.specs.List.{flat_map}
use Rattle.std.proofs.Common.{◌∙◌, ap, sym, subst, arith, inl, inr, cond, eqb-true, true≢false}
use Rattle.std.proofs.lemmas.Bool.{cases_Bool, ne_eqb}
use Rattle.std.proofs.lemmas.Bool.Decides.{nat_tests}
use Rattle.omf_model.specs.Segments.{is_fixed_id, has_common_id, has_segment}
use Rattle.omf_model.specs.Modules.{ModuleValue}
use Rattle.omf_model.specs.Place.{Bases, word_of, common_name, base_of, part_start, place_in}
use Rattle.omf_model.specs.ImageByte.{name_at}
use Rattle.omf_model.specs.SoundModules.{RulesOf, PartsOfOneStartAtZero}
use Rattle.link80.specs.Linked.{names_of_commons, common_names, linked_commons, id_of, linked_id, moved, linked}
use Rattle.link80.proofs.NameLemmas.{has_name, distinct_has, IsNumbered, is_numbered}

-- a module of the list: it keeps the rules, and its names are among those of all
pub record Listed (modules : List ModuleValue) (m : ModuleValue) : Type 0 where
  pub rules : RulesOf m
  pub commons : (id : ℕ) → has_common_id m.commons id ≡ true
      → has_name (flat_map names_of_commons modules) (common_name m.commons id) ≡ true
  pub externals : (index : ℕ) → index < length m.externals
      → has_name (flat_map (λ m. m.externals) modules) (name_at m.externals index) ≡ true

abbrev pub few_commons : List ModuleValue → Type 0
few_commons modules = length (common_names modules) ≤ 249

-- the linked common of a module's common
pub common_found : (modules : List ModuleValue) (m : ModuleValue) (id : ℕ) → Listed modules m → has_common_id m.commons id ≡ true
    → IsNumbered 6 (common_names modules) (common_name m.commons id)
common_found modules m id listed named =
    is_numbered 6 (common_names modules) (common_name m.commons id)
    (distinct_has (flat_map names_of_commons modules) (common_name m.commons id) (listed.commons id named))

-- a segment that is neither absolute nor STACK
pub record SameSegment (name : List ℕ) (modules : List ModuleValue) (m : ModuleValue) (bases : Bases) (id : ℕ) : Type 0 where
  pub not_absolute : (linked_id modules m id == 0) ≡ false
  pub not_stack : (linked_id modules m id == 3) ≡ false
  pub there : has_segment (linked_commons modules) (linked_id modules m id) ≡ true
  pub base : base_of bases (linked name modules) (linked_id modules m id) ≡ base_of bases m id

-- the base of one of the five other segments that every module has
fixed_base : (bases : Bases) (m n : ModuleValue) (id : ℕ) → is_fixed_id id ≡ true → (id == 0) ≡ false → (id == 3) ≡ false
    → base_of bases m id ≡ base_of bases n id
fixed_base bases m n id fixed not_absolute not_stack =
    elim (cases_Bool (id == 1)) [
      | inl e ↦ ap (λ b. cond b bases.code (by_data m)) e ∙ sym (ap (λ b. cond b bases.code (by_data n)) e)
      | inr not_code ↦ ap (λ b. cond b bases.code (by_data m)) not_code ∙ elim (cases_Bool (id == 2)) [
        | inl e ↦ ap (λ b. cond b bases.data_base (by_memory m)) e
            ∙ sym (ap (λ b. cond b bases.code (by_data n)) not_code ∙ ap (λ b. cond b bases.data_base (by_memory n)) e)
        | inr not_data ↦ ap (λ b. cond b bases.data_base (by_memory m)) not_data ∙ elim (cases_Bool (id == 4)) [
          | inl e ↦ ap (λ b. cond b bases.memory (by_common m)) e
              ∙ sym (ap (λ b. cond b bases.code (by_data n)) not_code ∙ ap (λ b. cond b bases.data_base (by_memory n)) not_data
              ∙ ap (λ b. cond b bases.memory (by_common n)) e)
          | inr not_memory ↦
              let e : (id == 255) ≡ true = last_fixed id fixed not_absolute not_code not_data not_stack not_memory in
              ap (λ b. cond b bases.memory (by_common m)) not_memory
              ∙ ap (λ b. cond b bases.common (word_of bases.commons (common_name m.commons id))) e
              ∙ sym (ap (λ b. cond b bases.code (by_data n)) not_code ∙ ap (λ b. cond b bases.data_base (by_memory n)) not_data
              ∙ ap (λ b. cond b bases.memory (by_common n)) not_memory
              ∙ ap (λ b. cond b bases.common (word_of bases.commons (common_name n.commons id))) e)
        ]
      ]
    ]
  where
    by_common : ModuleValue → ℕ
    by_common k = cond (id == 255) bases.common (word_of bases.commons (common_name k.commons id))

    by_memory : ModuleValue → ℕ
    by_memory k = cond (id == 4) bases.memory (by_common k)

    by_data : ModuleValue → ℕ
    by_data k = cond (id == 2) bases.data_base (by_memory k)

    last_fixed : (id : ℕ) → is_fixed_id id ≡ true → (id == 0) ≡ false → (id == 1) ≡ false → (id == 2) ≡ false → (id == 3) ≡ false
        → (id == 4) ≡ false → (id == 255) ≡ true
    last_fixed id fixed a b c d e = grind (arith, nat_tests, fixed, a, b, c, d, e)

-- a named common goes by its name
named_base : (bases : Bases) (m : ModuleValue) (id : ℕ) → (id == 1) ≡ false → (id == 2) ≡ false → (id == 4) ≡ false
    → (id == 255) ≡ false → base_of bases m id ≡ word_of bases.commons (common_name m.commons id)
named_base bases m id not_code not_data not_memory not_common =
    let named : ℕ = word_of bases.commons (common_name m.commons id) in
    ap (λ b. cond b bases.code
    (cond (id == 2) bases.data_base (cond (id == 4) bases.memory (cond (id == 255) bases.common named)))) not_code
    ∙ ap (λ b. cond b bases.data_base (cond (id == 4) bases.memory (cond (id == 255) bases.common named))) not_data
    ∙ ap (λ b. cond b bases.memory (cond (id == 255) bases.common named)) not_memory
    ∙ ap (λ b. cond b bases.common named) not_common

other_than : (id other : ℕ) → (id ≡ other → ⊥) → (id == other) ≡ false
other_than id other differ = ne_eqb id other differ

not_fixed : (id other : ℕ) → is_fixed_id id ≡ false → is_fixed_id other ≡ true → (id == other) ≡ false
not_fixed id other named fixed = other_than id other (λ e. true≢false (sym fixed ∙ ap is_fixed_id (sym e) ∙ named))

pub same_segment : (name : List ℕ) (modules : List ModuleValue) (m : ModuleValue) (bases : Bases) (id : ℕ) → few_commons modules
    → Listed modules m → has_segment m.commons id ≡ true →
    (id == 0) ≡ false → (id == 3) ≡ false → SameSegment name modules m bases id
same_segment name modules m bases id few listed has not_absolute not_stack = elim (cases_Bool (is_fixed_id id)) [
  | inl fixed ↦
      let same : linked_id modules m id ≡ id =
      ap (λ b. cond b id (id_of (linked_commons modules) (common_name m.commons id))) fixed in
      record {
        not_absolute = ap (λ i. i == 0) same ∙ not_absolute;
        not_stack = ap (λ i. i == 3) same ∙ not_stack;
        there = ap (λ i. has_segment (linked_commons modules) i) same
            ∙ ap (λ b. b || has_common_id (linked_commons modules) id) fixed;
        base = ap (λ i. base_of bases (linked name modules) i) same
            ∙ fixed_base bases (linked name modules) m id fixed not_absolute not_stack;
      }
  | inr named ↦
      let is_named : has_common_id m.commons id ≡ true = sym (ap (λ b. b || has_common_id m.commons id) named) ∙ has in
      let found : IsNumbered 6 (common_names modules) (common_name m.commons id) = common_found modules m id listed is_named in
      let new : ℕ = id_of (linked_commons modules) (common_name m.commons id) in
      let same : linked_id modules m id ≡ new = ap (λ b. cond b id new) named in
      let low : 6 ≤ new = found.least in
      let most : new < 6 + length (common_names modules) = found.most in
      let high : new < 255 = omega (arith, most, few) in
      record {
        not_absolute = ap (λ i. i == 0) same ∙ other_than new 0 (λ e. omega (arith, e, low));
        not_stack = ap (λ i. i == 3) same ∙ other_than new 3 (λ e. omega (arith, e, low));
        there = ap (λ i. has_segment (linked_commons modules) i) same
            ∙ later (is_fixed_id new) (has_common_id (linked_commons modules) new) found.there;
        base =
            ap (λ i. base_of bases (linked name modules) i) same
            ∙ named_base bases (linked name modules) new (other_than new 1 (λ e. omega (arith, e, low)))
            (other_than new 2 (λ e. omega (arith, e, low))) (other_than new 4 (λ e. omega (arith, e, low)))
            (other_than new 255 (λ e. omega (arith, e, high)))
            ∙ ap (word_of bases.commons) found.called
            ∙ sym (named_base bases m id (not_fixed id 1 named refl) (not_fixed id 2 named refl) (not_fixed id 4 named refl)
            (not_fixed id 255 named refl));
      }
]
  where
    later : (a b : Bool) → b ≡ true → (a || b) ≡ true
    later true b e = refl
    later false b e = e

-- by the base and the part
pub by_base : (bases : Bases) (modules : List ModuleValue) (number : ℕ) (m : ModuleValue) (id offset : ℕ) → (id == 0) ≡ false
    → (id == 3) ≡ false →
    place_in bases modules number m id offset ≡ (base_of bases m id + part_start modules number id + offset) % 65536
by_base bases modules number m id offset not_absolute not_stack =
    let at : ℕ = (base_of bases m id + part_start modules number id + offset) % 65536 in
    ap (λ b. cond b offset (cond (id == 3) ((bases.top + offset) % 65536) at)) not_absolute
    ∙ ap (λ b. cond b ((bases.top + offset) % 65536) at) not_stack

-- the place of a public, a start or a target
pub place_same : PartsOfOneStartAtZero
    → (name : List ℕ) (modules : List ModuleValue) (number : ℕ) (m : ModuleValue) (bases : Bases) (id offset : ℕ)
    → few_commons modules → Listed modules m → has_segment m.commons id ≡ true →
    place_in bases (linked name modules ∷ []) 0 (linked name modules) (linked_id modules m id) (moved modules number id offset)
    ≡ place_in bases modules number m id offset
place_same zero_start name modules number m bases id offset few listed has =
    let l : ModuleValue = linked name modules in
    elim (cases_Bool (id == 0)) [
      | inl e ↦ subst (λ i. place_in bases (l ∷ []) 0 l (linked_id modules m i) (moved modules number i offset)
          ≡ place_in bases modules number m i offset) (sym (eqb-true id 0 e)) refl
      | inr not_absolute ↦ elim (cases_Bool (id == 3)) [
        | inl e ↦ subst (λ i. place_in bases (l ∷ []) 0 l (linked_id modules m i) (moved modules number i offset)
            ≡ place_in bases modules number m i offset) (sym (eqb-true id 3 e)) refl
        | inr not_stack ↦
            let same : SameSegment name modules m bases id =
            same_segment name modules m bases id few listed has not_absolute not_stack in
            let new : ℕ = linked_id modules m id in
            let start : ℕ = part_start modules number id in
            let there : moved modules number id offset ≡ (offset + start) % 65536 =
            ap (λ b. cond (b || id == 3) offset ((offset + start) % 65536)) not_absolute
            ∙ ap (λ b. cond b offset ((offset + start) % 65536)) not_stack in
            ap (λ o. place_in bases (l ∷ []) 0 l new o) there
            ∙ by_base bases (l ∷ []) 0 l new ((offset + start) % 65536) same.not_absolute same.not_stack
            ∙ moved_sum (base_of bases l new) (base_of bases m id) (part_start (l ∷ []) 0 new) start offset same.base
            (zero_start l new)
            ∙ sym (by_base bases modules number m id offset not_absolute not_stack)
      ]
    ]
  where
    moved_sum : (a b p s o : ℕ) → a ≡ b → p ≡ 0 → (a + p + (o + s) % 65536) % 65536 ≡ (b + s + o) % 65536
    moved_sum a b p s o same none = omega (arith, same, none)

-- the place of a content, which isn't in STACK
pub content_place : PartsOfOneStartAtZero
    → (name : List ℕ) (modules : List ModuleValue) (number : ℕ) (m : ModuleValue) (bases : Bases) (id offset : ℕ)
    → few_commons modules → Listed modules m → has_segment m.commons id ≡ true →
    (id == 3) ≡ false →
    place_in bases (linked name modules ∷ []) 0 (linked name modules) (linked_id modules m id)
    (offset + part_start modules number id) ≡ place_in bases modules number m id offset
content_place zero_start name modules number m bases id offset few listed has not_stack =
    let l : ModuleValue = linked name modules in
    elim (cases_Bool (id == 0)) [
      | inl e ↦ subst (λ i. place_in bases (l ∷ []) 0 l (linked_id modules m i) (offset + part_start modules number i)
          ≡ place_in bases modules number m i offset) (sym (eqb-true id 0 e)) (plus_zero offset)
      | inr not_absolute ↦
          let same : SameSegment name modules m bases id =
          same_segment name modules m bases id few listed has not_absolute not_stack in
          let new : ℕ = linked_id modules m id in
          let start : ℕ = part_start modules number id in
          by_base bases (l ∷ []) 0 l new (offset + start) same.not_absolute same.not_stack
          ∙ plain_sum (base_of bases l new) (base_of bases m id) (part_start (l ∷ []) 0 new) start offset same.base
          (zero_start l new)
          ∙ sym (by_base bases modules number m id offset not_absolute not_stack)
    ]
  where
    plus_zero : (n : ℕ) → n + 0 ≡ n
    plus_zero n = omega arith

    plain_sum : (a b p s o : ℕ) → a ≡ b → p ≡ 0 → (a + p + (o + s)) % 65536 ≡ (b + s + o) % 65536
    plain_sum a b p s o same none = omega (arith, same, none)
