-- Commons by their names, and the parts of a module alone.
use Rattle.std.proofs.Common.{◌≡◌, ℕ, ◌+◌, ◌/◌, ◌*◌, Bool, true, false, cond, ◌&&◌, ◌||◌, List, [], ◌∷◌, ◌++◌, map, refl, sym, ap, ◌∙◌, inl, inr, eqb-true, eq-eqb}
use Rattle.std.specs.Prelude.{not, nat_eq, ◌==◌, Some, find, IsTrue, slice_index}
use Rattle.std.specs.List.{list_all, list_any}
use Rattle.std.specs.Option.{option_map_or}
use Rattle.std.specs.Cmp.Lexicographic.{pointwise}
use Rattle.std.proofs.lemmas.Bool.{and_parts, cases_Bool, not_from_false}
use Rattle.omf_core.specs.SegmentId.{is_common_id}
use Rattle.omf_model.specs.declared.symbols.Common.{Common}
use Rattle.omf_model.specs.Segments.{has_common_id, segment_in}
use Rattle.omf_model.specs.Modules.{ModuleValue}
use Rattle.omf_model.specs.Place.{word_of, common_name, is_laid_out, starts_from, part_start}
use Rattle.omf_model.specs.Rules.{each_after, is_new_common}
use Rattle.omf_model.proofs.AfterLemmas.{all_after_one, rest_after, none_at, not_true}

-- a name is itself
same_name : (name : List ℕ) → pointwise nat_eq name name ≡ true
same_name [] = refl
same_name (b ∷ bs) = ap (λ t. t && pointwise nat_eq bs bs) (eq-eqb b b refl) ∙ same_name bs

-- a common's name isn't that of a later common
abbrev is_other_name : Common → Common → Bool
is_other_name c d = not (pointwise nat_eq c.name d.name)

new_name : (front : List Common) (c : Common) (back : List Common) (d : Common) → IsTrue (is_new_common (front ++ c ∷ back) d) → IsTrue (is_other_name c d)
new_name front c back d new =
    let none = (and_parts (is_common_id d.id && not (list_any (λ e. e.id == d.id) (front ++ c ∷ back))) (not (list_any (λ e. pointwise nat_eq e.name d.name) (front ++ c ∷ back))) new).1 in
    not_from_false (pointwise nat_eq c.name d.name)
    (none_at (λ (e : Common). pointwise nat_eq e.name d.name) front c back (not_true (list_any (λ (e : Common). pointwise nat_eq e.name d.name) (front ++ c ∷ back)) none))

other_name : (c : Common) (commons : List Common) (id : ℕ) → IsTrue (list_all (is_other_name c) commons) → has_common_id commons id ≡ true →
    pointwise nat_eq c.name (common_name commons id) ≡ false
other_name c [] id others named = absurd cc
other_name c (d ∷ ds) id others named =
    let parts = and_parts (is_other_name c d) (list_all (is_other_name c) ds) others in
    (elim (d.id == id) as (λ b. (b || has_common_id ds id) ≡ true → pointwise nat_eq c.name (option_map_or (λ e. e.name) (cond b (Some d) (find (λ e. e.id == id) ds)) []) ≡ false) [
      | true ↦ λ _. not_true (pointwise nat_eq c.name d.name) parts.0
      | false ↦ λ later. other_name c ds id parts.1 later
    ]) named

-- the word beside the name of a named common is its base
abbrev bases_by_name : (ℕ → ℕ) → List Common → List (List ℕ × ℕ)
bases_by_name base commons = map (λ c. (c.name, base c.id)) commons

abbrev word_if : (ℕ → ℕ) → Common → List Common → List ℕ → Bool → ℕ
word_if base c cs name same = option_map_or (λ w. w.1) (cond same (Some (c.name, base c.id)) (find (λ w. pointwise nat_eq w.0 name) (bases_by_name base cs))) 0

abbrev name_if : Common → List Common → ℕ → Bool → List ℕ
name_if c cs id same = option_map_or (λ d. d.name) (cond same (Some c) (find (λ d. d.id == id) cs)) []

pub common_word : (base : ℕ → ℕ) (before commons : List Common) (id : ℕ) → IsTrue (each_after is_new_common before commons) → has_common_id commons id ≡ true →
    word_of (bases_by_name base commons) (common_name commons id) ≡ base id
common_word base before [] id new named = absurd cc
common_word base before (c ∷ cs) id new named = elim (cases_Bool (c.id == id)) [
  | inl e ↦
      ap (λ name. word_of (bases_by_name base (c ∷ cs)) name) (ap (name_if c cs id) e)
      ∙ ap (word_if base c cs c.name) (same_name c.name)
      ∙ ap base (eqb-true c.id id e)
  | inr e ↦
      let parts = rest_after is_new_common before c cs new in
      let later : has_common_id cs id ≡ true = sym (ap (λ b. b || has_common_id cs id) e) ∙ named in
      ap (λ name. word_of (bases_by_name base (c ∷ cs)) name) (ap (name_if c cs id) e)
      ∙ ap (word_if base c cs (common_name cs id)) (other_name c cs id (all_after_one is_new_common (is_other_name c) before c [] cs (λ front back d new. new_name front c back d new) parts.1) later)
      ∙ common_word base (before ++ c ∷ []) cs id parts.1 later
]

-- the part of the only module starts where its segment does
pub only_part_start : (m : ModuleValue) (id : ℕ) → part_start (m ∷ []) 0 id ≡ 0
only_part_start m id =
    elim (is_laid_out id) as (λ b. cond b (slice_index (starts_from id 0 (m ∷ [])) 0) 0 ≡ 0) [
      | true ↦ elim (segment_in m.segments id).paged as (λ b. cond b ((0 + 255) / 256 * 256) 0 ≡ 0) [ true ↦ refl | false ↦ refl ]
      | false ↦ refl
    ]
