-- The chunks of the linked module are those of its modules.
use Rattle.std.specs.Prelude.{◌≡◌, ℕ, ◌+◌, ◌<◌, nat_lt, Bool, true, false, ◌||◌, Option, Some, None, List, [], ◌∷◌, ◌++◌, length, map, refl, find, if◌then◌else◌}
use Rattle.std.specs.List.{list_any, flat_map, enumerate_from, AllByRecursion}
use Rattle.std.specs.Option.{option_or, option_map_or}
use Rattle.std.specs.Cmp.Lexicographic.{pointwise}
use Rattle.std.specs.Prelude.{nat_eq, ◌==◌, zero, suc}
use Rattle.std.proofs.Common.{◌∙◌, ap, sym, subst, arith, inl, inr, cond, append_assoc}
use Rattle.std.proofs.lemmas.Bool.{cases_Bool, ltb-false, or_parts}
use Rattle.std.proofs.lemmas.List.{append-nil}
use Rattle.omf_model.specs.declared.symbols.Common.{Common}
use Rattle.omf_model.specs.Contents.{ContentValue}
use Rattle.omf_model.specs.Segments.{has_common_id}
use Rattle.omf_model.specs.Modules.{ModuleValue}
use Rattle.omf_model.specs.Rules.{IsModule}
use Rattle.omf_model.specs.PatchLaws.{TwoPassesAreOne}
use Rattle.omf_model.specs.Place.{Bases, common_name}
use Rattle.omf_model.specs.ImageByte.{name_at, chunk_of}
use Rattle.omf_model.specs.HighReferences.{loses_low_byte}
use Rattle.omf_model.specs.SoundModules.{LiesIn, HasItsFixups, SoundModulesKeepRules, PartsOfOneStartAtZero}
use Rattle.link80.specs.declared.fault.LinkFault.TheVariants.{TooManyCommons}
use Rattle.link80.specs.Linked.{names_of_commons, common_names, linked_content, linked_contents, linked}
use Rattle.link80.specs.LinkFault.{duplicate_public, segment_too_long, two_mains, high_not_paged, too_many_commons, too_many_externals, link_fault}
use Rattle.link80.specs.LinkLaws.{LinkedChunksAreTheModules}
use Rattle.link80.proofs.ListLemmas.{map_map, map_flat, flat_same, map_same, all_both, any_front, any_back, none_flat, none_map}
use Rattle.link80.proofs.NameLemmas.{has_name, name_itself}
use Rattle.link80.proofs.PlaceLemmas.{Listed, few_commons}
use Rattle.link80.proofs.ReferenceLemmas.{all_listed}
use Rattle.link80.proofs.ContentLemmas.{chunk_same}

-- ---- each module is one of the list

own_common : (commons : List Common) (id : ℕ) → has_common_id commons id ≡ true
    → has_name (map (λ c. c.name) commons) (common_name commons id) ≡ true
own_common [] id named = absurd cc
own_common (c ∷ cs) id named =
    (elim (c.id == id) as (λ b. (b || has_common_id cs id) ≡ true →
    (pointwise nat_eq c.name (option_map_or (λ (d : Common). d.name) (cond b (Some c) (find (λ (d : Common). d.id == id) cs)) [])
    || has_name (map (λ d. d.name) cs)
    (option_map_or (λ (d : Common). d.name) (cond b (Some c) (find (λ (d : Common). d.id == id) cs)) [])) ≡ true) [
      | true ↦ λ _. ap (λ b. b || has_name (map (λ (d : Common). d.name) cs) c.name) (name_itself c.name)
      | false ↦ λ later. any_back (λ n. pointwise nat_eq n (common_name cs id)) (c.name ∷ []) (map (λ d. d.name) cs)
          (own_common cs id later)
    ]) named

own_external : (names : List (List ℕ)) (index : ℕ) → index < length names → has_name names (name_at names index) ≡ true
own_external [] index below = absurd (omega arith)
own_external (n ∷ ns) zero below = ap (λ b. b || has_name ns n) (name_itself n)
own_external (n ∷ ns) (suc index) below =
    any_back (λ o. pointwise nat_eq o (name_at ns index)) (n ∷ []) ns (own_external ns index (omega arith))

pub listed_from : SoundModulesKeepRules → (modules front rest : List ModuleValue) (number : ℕ) → modules ≡ front ++ rest
    → AllByRecursion IsModule rest → all_listed modules (enumerate_from number rest)
listed_from rules modules front [] number whole all = _
listed_from rules modules front (m ∷ ms) number whole all =
    let named : (f : ModuleValue → List (List ℕ)) (name : List ℕ) → has_name (f m) name ≡ true
    → has_name (flat_map f modules) name ≡ true = λ f name here.
    subst (λ (l : List ModuleValue). has_name (flat_map f l) name ≡ true) (sym whole)
    (in_front f name front (m ∷ ms) (any_front (λ n. pointwise nat_eq n name) (f m) (flat_map f ms) here)) in (
      record {
        rules = rules m all.0.sound;
        commons = λ id is. named names_of_commons (common_name m.commons id) (own_common m.commons id is);
        externals = λ index below. named (λ m. m.externals) (name_at m.externals index) (own_external m.externals index below);
      },
      listed_from rules modules (front ++ m ∷ []) ms (number + 1) (whole ∙ sym (append_assoc front (m ∷ []) ms)) all.1,
    )
  where
    in_front : (f : ModuleValue → List (List ℕ)) (name : List ℕ) (front rest : List ModuleValue)
        → has_name (flat_map f rest) name ≡ true → has_name (flat_map f (front ++ rest)) name ≡ true
    in_front f name [] rest here = here
    in_front f name (x ∷ xs) rest here =
        any_back (λ n. pointwise nat_eq n name) (f x) (flat_map f (xs ++ rest)) (in_front f name xs rest here)

-- ---- no fault

or_none : {A : Type 0} (a b : Option A) → option_or a b ≡ None → (a ≡ None) × (b ≡ None)
or_none None b none = (refl, none)
or_none (Some x) b none = absurd cc

pub few : (modules : List ModuleValue) → link_fault modules ≡ None → few_commons modules
few modules none =
    let a = or_none (duplicate_public modules)
    (option_or (segment_too_long modules)
    (option_or (two_mains modules)
    (option_or (high_not_paged modules) (option_or (too_many_commons modules) (too_many_externals modules))))) none in
    let b = or_none (segment_too_long modules)
    (option_or (two_mains modules)
    (option_or (high_not_paged modules) (option_or (too_many_commons modules) (too_many_externals modules)))) a.1 in
    let c = or_none (two_mains modules)
    (option_or (high_not_paged modules) (option_or (too_many_commons modules) (too_many_externals modules))) b.1 in
    let d = or_none (high_not_paged modules) (option_or (too_many_commons modules) (too_many_externals modules)) c.1 in
    let e = or_none (too_many_commons modules) (too_many_externals modules) d.1 in
    elim (cases_Bool (nat_lt 249 (length (common_names modules)))) [
      | inl over ↦ let is : Some TooManyCommons ≡ None = sym (ap (λ b. if b then Some TooManyCommons else None) over) ∙ e.0 in
          absurd cc
      | inr under ↦ ltb-false 249 (length (common_names modules)) under
    ]

-- ---- all chunks

abbrev keeps_low_bytes : List ℕ → List ModuleValue → Bases → ContentValue → Type 0
keeps_low_bytes name modules bases c =
    list_any (loses_low_byte bases (linked name modules ∷ []) (0, linked name modules)) c.fixups ≡ false

module_chunks : TwoPassesAreOne → PartsOfOneStartAtZero
    → (name : List ℕ) (modules : List ModuleValue) (bases : Bases) (m : ℕ × ModuleValue) → few_commons modules
    → all_listed modules (enumerate_from 0 modules) → Listed modules m.1 →
    list_any (λ (c : ContentValue). list_any (loses_low_byte bases (linked name modules ∷ []) (0, linked name modules)) c.fixups)
    (map (linked_content modules m) m.1.contents) ≡ false →
    map (chunk_of bases (linked name modules ∷ []) (0, linked name modules)) (map (linked_content modules m) m.1.contents)
    ≡ map (chunk_of bases modules m) m.1.contents
module_chunks two_passes zero_start name modules bases m few all listed none =
    let l : ModuleValue = linked name modules in
    map_map (chunk_of bases (l ∷ []) (0, l)) (linked_content modules m) m.1.contents
    ∙ map_same (λ c. (LiesIn m.1 c × HasItsFixups m.1 c) × keeps_low_bytes name modules bases (linked_content modules m c))
    (λ c. chunk_of bases (l ∷ []) (0, l) (linked_content modules m c)) (chunk_of bases modules m)
    (λ c good. chunk_same two_passes zero_start name modules bases m c few all listed good.0.0 good.0.1 good.1) m.1.contents
    (all_both (λ c. LiesIn m.1 c × HasItsFixups m.1 c)
    (λ c. keeps_low_bytes name modules bases (linked_content modules m c)) m.1.contents
    (all_both (LiesIn m.1) (HasItsFixups m.1) m.1.contents listed.rules.contents listed.rules.fixups)
    (none_map (λ (c : ContentValue). list_any (loses_low_byte bases (l ∷ []) (0, l)) c.fixups)
    (linked_content modules m) m.1.contents none))

pub linked_chunks : TwoPassesAreOne → PartsOfOneStartAtZero → SoundModulesKeepRules → LinkedChunksAreTheModules
linked_chunks two_passes zero_start rules name modules bases are_modules no_fault keeps =
    let l : ModuleValue = linked name modules in
    let number : few_commons modules = few modules no_fault in
    let all : all_listed modules (enumerate_from 0 modules) = listed_from rules modules [] modules 0 refl are_modules in
    let loses : ContentValue → Bool = λ c. list_any (loses_low_byte bases (l ∷ []) (0, l)) c.fixups in
    let none : list_any loses (linked_contents modules) ≡ false =
    (or_parts (list_any loses (linked_contents modules)) false keeps).0 in
    append-nil (map (chunk_of bases (l ∷ []) (0, l)) (linked_contents modules))
    ∙ map_flat (chunk_of bases (l ∷ []) (0, l)) (λ (m : ℕ × ModuleValue). map (linked_content modules m) m.1.contents)
    (enumerate_from 0 modules)
    ∙ flat_same (λ (m : ℕ × ModuleValue). Listed modules m.1
    × (list_any loses (map (linked_content modules m) m.1.contents) ≡ false))
    (λ m. map (chunk_of bases (l ∷ []) (0, l)) (map (linked_content modules m) m.1.contents))
    (λ m. map (chunk_of bases modules m) m.1.contents)
    (λ m here. module_chunks two_passes zero_start name modules bases m number all here.0 here.1) (enumerate_from 0 modules)
    (all_both (λ (m : ℕ × ModuleValue). Listed modules m.1)
    (λ m. list_any loses (map (linked_content modules m) m.1.contents) ≡ false) (enumerate_from 0 modules) all
    (none_flat loses (λ (m : ℕ × ModuleValue). map (linked_content modules m) m.1.contents) (enumerate_from 0 modules) none))
