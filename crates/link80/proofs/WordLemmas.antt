-- The lengths and the contents of the linked module fit words.
use Rattle.std.specs.Prelude.{◌≡◌, ◌⊎◌, ℕ, ◌≤◌, ◌==◌, nat_lt, nat_eq, Bool, true, false, Option, Some, None, option_map, List, [], ◌∷◌, find, map, refl, max}
use Rattle.std.specs.List.{AllByRecursion}
use Rattle.std.specs.Option.{option_or, option_map_or}
use Rattle.std.specs.Cmp.Lexicographic.{pointwise}
use Rattle.std.proofs.Common.{sym, subst, arith, inl, inr, cond, eqb-true}
use Rattle.std.proofs.lemmas.Bool.{cases_Bool, ltb-false}
use Rattle.std.proofs.lemmas.Bool.Decides.{nat_tests}
use Rattle.omf_model.specs.declared.symbols.Common.{Common}
use Rattle.omf_model.specs.Segments.{empty_segment, is_fixed_id, segment_in}
use Rattle.omf_model.specs.Modules.{ModuleValue}
use Rattle.omf_model.specs.Place.{common_name, is_laid_out}
use Rattle.link80.specs.declared.fault.LinkFault.{LinkFault}
use Rattle.link80.specs.declared.fault.LinkFault.TheVariants.{SegmentTooLong}
use Rattle.link80.specs.Linked.{linked_commons, part_of, parts_end, greatest, linked_length}
use Rattle.link80.specs.LinkFault.{duplicate_public, segment_too_long, two_mains, high_not_paged, too_many_commons, too_many_externals, link_fault}
use Rattle.link80.specs.LinkLaws.{HasWordLengths, LinkedLengthsAreWords, LaidPartsEndAtWords}

or_none : {A : Type 0} (a b : Option A) → option_or a b ≡ None → (a ≡ None) × (b ≡ None)
or_none None b none = (refl, none)
or_none (Some x) b none = absurd cc

none_too_long : (modules : List ModuleValue) → link_fault modules ≡ None → segment_too_long modules ≡ None
none_too_long modules none =
    let rest : Option LinkFault =
    option_or (two_mains modules)
    (option_or (high_not_paged modules) (option_or (too_many_commons modules) (too_many_externals modules))) in
    (or_none (segment_too_long modules) rest
    (or_none (duplicate_public modules) (option_or (segment_too_long modules) rest) none).1).0

none_found : (test : ℕ → Bool) (i : ℕ) (is : List ℕ) → option_map SegmentTooLong (find test (i ∷ is)) ≡ None
    → (test i ≡ false) × (option_map SegmentTooLong (find test is) ≡ None)
none_found test i is none =
    (elim (test i) as (λ b. option_map SegmentTooLong (cond b (Some i) (find test is)) ≡ None
    → (b ≡ false) × (option_map SegmentTooLong (find test is) ≡ None)) [
      | true ↦ λ some. absurd (some_none (SegmentTooLong i) some)
      | false ↦ λ later. (refl, later)
    ]) none
  where
    some_none : (x : LinkFault) → Some x ≡ None → ⊥
    some_none x e = cc

laid_out_cases : (id : ℕ) → is_laid_out id ≡ true → (id ≡ 1) ⊎ ((id ≡ 2) ⊎ (id ≡ 3))
laid_out_cases id laid = elim (cases_Bool (id == 1)) [
  | inl e ↦ inl (eqb-true id 1 e)
  | inr a ↦ elim (cases_Bool (id == 2)) [
    | inl e ↦ inr (inl (eqb-true id 2 e))
    | inr b ↦ inr (inr (third id laid a b))
  ]
]
  where
    third : (id : ℕ) → is_laid_out id ≡ true → (id == 1) ≡ false → (id == 2) ≡ false → id ≡ 3
    third id laid a b = grind (arith, nat_tests, laid, a, b)

pub laid_out_word : (modules : List ModuleValue) (id : ℕ) → segment_too_long modules ≡ None → is_laid_out id ≡ true
    → linked_length modules id ≤ 65535
laid_out_word modules id none laid =
    let test : ℕ → Bool = λ i. nat_lt 65535 (linked_length modules i) in
    let first = none_found test 1 (2 ∷ 3 ∷ []) none in
    let second = none_found test 2 (3 ∷ []) first.1 in
    let third = none_found test 3 [] second.1 in
    elim (laid_out_cases id laid) [
      | inl e ↦ subst (λ i. linked_length modules i ≤ 65535) (sym e) (ltb-false 65535 (linked_length modules 1) first.0)
      | inr other ↦ elim other [
        | inl e ↦ subst (λ i. linked_length modules i ≤ 65535) (sym e) (ltb-false 65535 (linked_length modules 2) second.0)
        | inr e ↦ subst (λ i. linked_length modules i ≤ 65535) (sym e) (ltb-false 65535 (linked_length modules 3) third.0)
      ]
    ]

part_word : (commons : List Common) (m : ModuleValue) (id : ℕ) → HasWordLengths m → (part_of commons m id).length ≤ 65535
part_word commons m id words =
    elim (is_fixed_id id) as
    (λ b. (cond b (segment_in m.segments id)
    (option_map_or (λ (c : Common). segment_in m.segments c.id)
    (find (λ (c : Common). pointwise nat_eq c.name (common_name commons id)) m.commons) empty_segment)).length ≤ 65535) [
      | true ↦ words id
      | false ↦ by_name (find (λ (c : Common). pointwise nat_eq c.name (common_name commons id)) m.commons)
    ]
  where
    by_name : (o : Option Common) → (option_map_or (λ (c : Common). segment_in m.segments c.id) o empty_segment).length ≤ 65535
    by_name None = omega arith
    by_name (Some c) = words c.id

longest_word : (commons : List Common) (ms : List ModuleValue) (id : ℕ) → AllByRecursion HasWordLengths ms
    → greatest (map (λ m. (part_of commons m id).length) ms) ≤ 65535
longest_word commons [] id words = omega arith
longest_word commons (m ∷ ms) id words =
    both ((part_of commons m id).length) (greatest (map (λ m. (part_of commons m id).length) ms)) (part_word commons m id words.0)
    (longest_word commons ms id words.1)
  where
    both : (a b : ℕ) → a ≤ 65535 → b ≤ 65535 → max a b ≤ 65535
    both a b p q = omega (arith, p, q)

pub lengths_are_words : LinkedLengthsAreWords
lengths_are_words modules id words no_fault =
    let longest : ℕ = greatest (map (λ m. (part_of (linked_commons modules) m id).length) modules) in
    elim (cases_Bool (is_laid_out id)) [
      | inl laid ↦ laid_out_word modules id (none_too_long modules no_fault) laid
      | inr over ↦ subst (λ b. cond b (parts_end id 0 modules) longest ≤ 65535) (sym over)
          (longest_word (linked_commons modules) modules id words)
    ]

pub laid_parts_end_at_words : LaidPartsEndAtWords
laid_parts_end_at_words modules id no_fault laid =
    let longest : ℕ = greatest (map (λ m. (part_of (linked_commons modules) m id).length) modules) in
    subst (λ b. cond b (parts_end id 0 modules) longest ≤ 65535) laid (laid_out_word modules id (none_too_long modules no_fault) laid)
