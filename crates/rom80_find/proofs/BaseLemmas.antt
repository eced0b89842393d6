-- Bases of a module alone, and values of its targets by their numbers.
use Rattle.std.specs.Prelude.{◌≡◌, ℕ, zero, suc, ◌+◌, ◌-◌, ◌%◌, ◌<◌, ◌≤◌, ◌==◌, nat_eq, nat_lt, nat_le, cond, Bool}
use Rattle.std.specs.Prelude.{true, false, if◌then◌else◌, Some, List, [], ◌∷◌, ◌++◌, length, map, find, take, IsTrue}
use Rattle.std.specs.List.{AllByRecursion}
use Rattle.std.specs.Option.{option_map_or}
use Rattle.std.specs.Cmp.Lexicographic.{pointwise}
use Rattle.std.proofs.Common.{refl, sym, ◌∙◌, ap, arith, inl, inr}
use Rattle.std.proofs.lemmas.Bool.{eqb-true, lt-ltb, ltb-true, leb-true, le-ltb, true≢false, or_cases}
use Rattle.omf_model.specs.declared.symbols.Public.{Public}
use Rattle.omf_model.specs.declared.fixup.Target.{Target}
use Rattle.omf_model.specs.declared.fixup.Target.TheVariants as target
use Rattle.omf_model.specs.Segments.{has_segment, has_common_id, is_fixed_id}
use Rattle.omf_model.specs.Modules.{ModuleValue}
use Rattle.omf_model.specs.Rules.{has_target}
use Rattle.omf_model.specs.Place.{Bases, word_of, base_of, part_start, place_at, place_in}
use Rattle.omf_model.specs.ImageByte.{name_at, placed_public, target_word}
use Rattle.omf_model.specs.SoundModules.{RulesOf, CommonsByName, PartsOfOneStartAtZero}
use Rattle.rom80_pattern.specs.declared.resolving.Resolved.{Resolved}
use Rattle.rom80_pattern.specs.CodeBytes.{number_of}
use Rattle.rom80_pattern.specs.Modules.{first_with, resolved}
use Rattle.rom80_find.proofs.ExternalLemmas.{first_name, words_from, word_beside}

-- The values go with the bases: those of segments with their places, and those of names with the words beside them.
pub record Agrees (m : ModuleValue) (bases : Bases) (value : ℕ → ℕ) : Type 0 where
  pub zero : value 0 ≡ 0
  pub places : (id offset : ℕ) → has_segment m.commons id ≡ true → place_in bases (m ∷ []) 0 m id offset % 65536 ≡ (value id + offset) % 65536
  pub names : (index : ℕ) → index < length m.externals
      → word_of bases.words (name_at m.externals index) % 65536 ≡ value (256 + first_with (take index m.externals) (name_at m.externals index)) % 65536

-- an offset in a segment is added to where it begins
place_add : (begin top id offset : ℕ) → place_at begin top id offset % 65536 ≡ (place_at begin top id 0 + offset) % 65536
place_add begin top id offset = go (id == 0) (id == 3)
  where
    go : (a b : Bool) → (if a then offset else if b then (top + offset) % 65536 else (begin + offset) % 65536) % 65536
        ≡ ((if a then 0 else if b then (top + 0) % 65536 else (begin + 0) % 65536) + offset) % 65536
    go true b = omega arith
    go false true = omega arith
    go false false = omega arith

no_less : (n : ℕ) → nat_lt (256 + n) 256 ≡ false
no_less n = le-ltb (256 + n) 256 (omega arith)

pub small_id : (m : ModuleValue) → RulesOf m → (id : ℕ) → has_segment m.commons id ≡ true → id < 256
small_id m rules id has = elim (or_cases (is_fixed_id id) (has_common_id m.commons id) has) [
  | inl fixed ↦ elim (or_cases (nat_le id 4) (id == 255) fixed) [
    | inl low ↦ omega (arith, leb-true id 4 low)
    | inr last ↦ omega (arith, eqb-true id 255 last)
  ]
  | inr common ↦ omega (arith, (rules.ids id common).1)
]

-- ---- the values of bases

abbrev pub values_of : ModuleValue → Bases → ℕ → ℕ
values_of m bases n = if nat_lt n 256 then place_in bases (m ∷ []) 0 m n 0 else word_of bases.words (name_at m.externals (n - 256))

pub value_segment : (m : ModuleValue) (bases : Bases) (id : ℕ) → id < 256 → values_of m bases id ≡ place_in bases (m ∷ []) 0 m id 0
value_segment m bases id lt = ap (λ (t : Bool). if t then place_in bases (m ∷ []) 0 m id 0 else word_of bases.words (name_at m.externals (id - 256))) (lt-ltb id 256 lt)

pub value_name : (m : ModuleValue) (bases : Bases) (index : ℕ) → values_of m bases (256 + index) ≡ word_of bases.words (name_at m.externals index)
value_name m bases index =
    ap (λ (t : Bool). if t then place_in bases (m ∷ []) 0 m (256 + index) 0 else word_of bases.words (name_at m.externals (256 + index - 256))) (no_less index)
    ∙ ap (λ (n : ℕ). word_of bases.words (name_at m.externals n)) back
  where
    back : 256 + index - 256 ≡ index
    back = omega arith

pub bases_agree : (m : ModuleValue) (bases : Bases) → RulesOf m → Agrees m bases (values_of m bases)
bases_agree m bases rules = record {
  zero = refl;
  places = λ id offset has. place_add (base_of bases m id + part_start (m ∷ []) 0 id) bases.top id offset
      ∙ ap (λ (n : ℕ). (n + offset) % 65536) (sym (value_segment m bases id (small_id m rules id has)));
  names = λ index lt. ap (λ (n : ℕ). n % 65536) (sym (value_name m bases (first_with (take index m.externals) (name_at m.externals index))
      ∙ ap (λ (name : List ℕ). word_of bases.words name) (first_name m.externals index lt)));
}

-- ---- the bases of values

abbrev pub bases_by : ModuleValue → (ℕ → ℕ) → Bases
bases_by m value = record {
  code = value 1;
  data_base = value 2;
  memory = value 4;
  common = value 255;
  commons = map (λ c. (c.name, value c.id)) m.commons;
  top = value 3;
  words = words_from value 0 m.externals;
}

base_is : (m : ModuleValue) (value : ℕ → ℕ) (id : ℕ) → CommonsByName → RulesOf m → has_segment m.commons id ≡ true
    → (id == 0) ≡ false → (id == 3) ≡ false → base_of (bases_by m value) m id ≡ value id
base_is m value id by_name rules has not_absolute not_stack =
    go (id == 1) (id == 2) (id == 4) (id == 255) refl refl refl refl
  where
    common : (id == 1) ≡ false → (id == 2) ≡ false → (id == 4) ≡ false → (id == 255) ≡ false → has_common_id m.commons id ≡ true
    common a b c d = elim (or_cases (is_fixed_id id) (has_common_id m.commons id) has) [
      | inl fixed ↦ elim (or_cases (nat_le id 4) (id == 255) fixed) [
        | inl low ↦ elim (five id (leb-true id 4 low) not_absolute a b not_stack c) [ ]
        | inr last ↦ elim (true≢false (sym last ∙ d)) [ ]
      ]
      | inr k ↦ k
    ]
      where
        five : (n : ℕ) → n ≤ 4 → (n == 0) ≡ false → (n == 1) ≡ false → (n == 2) ≡ false → (n == 3) ≡ false → (n == 4) ≡ false → ⊥
        five zero le a b c d e = true≢false a
        five (suc zero) le a b c d e = true≢false b
        five (suc (suc zero)) le a b c d e = true≢false c
        five (suc (suc (suc zero))) le a b c d e = true≢false d
        five (suc (suc (suc (suc zero)))) le a b c d e = true≢false e
        five (suc (suc (suc (suc (suc n))))) le a b c d e = elim (past n le) [ ]
          where
            past : (n : ℕ) → suc (suc (suc (suc (suc n)))) ≤ 4 → ⊥
            past n le = omega arith

    go : (a b c d : Bool) → (id == 1) ≡ a → (id == 2) ≡ b → (id == 4) ≡ c → (id == 255) ≡ d → base_of (bases_by m value) m id ≡ value id
    go true b c d ea eb ec ed = rw ea (ap value (sym (eqb-true id 1 ea)))
    go false true c d ea eb ec ed = rw (ea, eb) (ap value (sym (eqb-true id 2 eb)))
    go false false true d ea eb ec ed = rw (ea, eb, ec) (ap value (sym (eqb-true id 4 ec)))
    go false false false true ea eb ec ed = rw (ea, eb, ec, ed) (ap value (sym (eqb-true id 255 ed)))
    go false false false false ea eb ec ed = rw (ea, eb, ec, ed) (by_name m.commons value id rules.commons (common ea eb ec ed))

place_by : (m : ModuleValue) (value : ℕ → ℕ) (id offset : ℕ) → CommonsByName → PartsOfOneStartAtZero → RulesOf m → value 0 ≡ 0 → has_segment m.commons id ≡ true
    → place_in (bases_by m value) (m ∷ []) 0 m id offset % 65536 ≡ (value id + offset) % 65536
place_by m value id offset by_name at_zero rules z has = go (id == 0) (id == 3) refl refl
  where
    sum : (b s v : ℕ) → b ≡ v → s ≡ 0 → (b + s + offset) % 65536 % 65536 ≡ (v + offset) % 65536
    sum b s v e z = omega arith

    twice : (v w : ℕ) → v ≡ w → (w + offset) % 65536 % 65536 ≡ (v + offset) % 65536
    twice v w e = omega arith

    alone : (v : ℕ) → v ≡ 0 → offset % 65536 ≡ (v + offset) % 65536
    alone v e = omega arith

    go : (a b : Bool) → (id == 0) ≡ a → (id == 3) ≡ b
        → (if a then offset else if b then (value 3 + offset) % 65536 else (base_of (bases_by m value) m id + part_start (m ∷ []) 0 id + offset) % 65536) % 65536
        ≡ (value id + offset) % 65536
    go true b ea eb = alone (value id) (ap value (eqb-true id 0 ea) ∙ z)
    go false true ea eb = twice (value id) (value 3) (ap value (eqb-true id 3 eb))
    go false false ea eb = sum (base_of (bases_by m value) m id) (part_start (m ∷ []) 0 id) (value id) (base_is m value id by_name rules has ea eb) (at_zero m id)

pub values_agree : (m : ModuleValue) (value : ℕ → ℕ) → CommonsByName → PartsOfOneStartAtZero → RulesOf m → value 0 ≡ 0 → Agrees m (bases_by m value) value
values_agree m value by_name at_zero rules z = record {
  zero = z;
  places = λ id offset has. place_by m value id offset by_name at_zero rules z has;
  names = λ index lt. ap (λ (n : ℕ). n % 65536) (word_beside value 0 m.externals index lt ∙ ap (λ (n : ℕ). value (256 + n)) (from_none (first_with (take index m.externals) (name_at m.externals index))));
}
  where
    from_none : (n : ℕ) → 0 + n ≡ n
    from_none n = omega arith

-- ---- so the words of all targets go with them

abbrev pub value_by : (ℕ → ℕ) → Resolved → ℕ
value_by value r = (value (number_of r.target) + r.addend) % 65536

abbrev place_of_public : Public → Resolved
place_of_public p = record { target = target.Segment p.segment; addend = p.offset }

module _ (m : ModuleValue) (bases : Bases) (value : ℕ → ℕ) (rules : RulesOf m) (a : Agrees m bases value) where
  declared : (name : List ℕ) (word : ℕ) (r : Resolved) → word % 65536 ≡ value_by value r
      → (ps : List Public) → AllByRecursion (λ (p : Public). has_segment m.commons p.segment ≡ true) ps
      → option_map_or (λ p. p.word) (find (λ p. pointwise nat_eq p.name name) (map (placed_public bases (m ∷ []) (0, m)) ps ++ [])) word % 65536
      ≡ value_by value (option_map_or place_of_public (find (λ p. pointwise nat_eq p.name name) ps) r)
  declared name word r e [] has = e
  declared name word r e (p ∷ ps) has = go (declared name word r e ps has.1) (pointwise nat_eq p.name name)
    where
      go : option_map_or (λ p. p.word) (find (λ p. pointwise nat_eq p.name name) (map (placed_public bases (m ∷ []) (0, m)) ps ++ [])) word % 65536
          ≡ value_by value (option_map_or place_of_public (find (λ p. pointwise nat_eq p.name name) ps) r)
          → (t : Bool) → option_map_or (λ p. p.word) (cond t (Some (placed_public bases (m ∷ []) (0, m) p)) (find (λ p. pointwise nat_eq p.name name) (map (placed_public bases (m ∷ []) (0, m)) ps ++ []))) word % 65536
          ≡ value_by value (option_map_or place_of_public (cond t (Some p) (find (λ p. pointwise nat_eq p.name name) ps)) r)
      go rest true = a.places p.segment p.offset has.0
      go rest false = rest

  pub target_agrees : (t : Target) → IsTrue (has_target m.commons (length m.externals) t)
      → target_word bases (m ∷ []) (0, m) t % 65536 ≡ value_by value (resolved m t)
  target_agrees (target.Segment id) has = a.places id 0 has
  target_agrees (target.External index) has =
      declared (name_at m.externals index) (word_of bases.words (name_at m.externals index))
      (record { target = target.External (first_with (take index m.externals) (name_at m.externals index)); addend = 0 })
      (a.names index (ltb-true index (length m.externals) has) ∙ sum) m.publics rules.publics
    where
      sum : value (256 + first_with (take index m.externals) (name_at m.externals index)) % 65536
          ≡ (value (256 + first_with (take index m.externals) (name_at m.externals index)) + 0) % 65536
      sum = omega arith
