-- Places in a program, the one module that is located.
use Rattle.std.proofs.Common.{◌≡◌, ℕ, ◌+◌, ◌%◌, true, false, cond, ◌||◌, List, [], ◌∷◌, map, refl, sym, ap, ◌∙◌, arith, inl, inr, eqb-true}
use Rattle.std.specs.Prelude.{◌==◌, IsTrue, if◌then◌else◌}
use Rattle.std.proofs.lemmas.Bool.{cases_Bool}
use Rattle.std.proofs.lemmas.Bool.Decides.{nat_tests}
use Rattle.omf_model.specs.declared.symbols.Common.{Common}
use Rattle.omf_model.specs.Segments.{is_fixed_id, has_common_id, has_segment}
use Rattle.omf_model.specs.Modules.{ModuleValue}
use Rattle.omf_model.specs.Place.{word_of, common_name, base_of, part_start, place_in}
use Rattle.omf_model.specs.Rules.{each_after, is_new_common}
use Rattle.omf_model.specs.SoundModules.{SoundModulesKeepRules, CommonsByName, PartsOfOneStartAtZero}
use Rattle.place80.specs.declared.placed_segments.Placed.{Placed}
use Rattle.place80.specs.Layout.{base_in, top_in, bases_of}

-- what holds of modules that keep the rules, of their commons and of their places
pub record ModuleLaws : Type 0 where
  pub rules : SoundModulesKeepRules
  pub by_name : CommonsByName
  pub zero_start : PartsOfOneStartAtZero

pub module_laws : SoundModulesKeepRules → CommonsByName → PartsOfOneStartAtZero → ModuleLaws
module_laws rules by_name zero_start = record { rules = rules; by_name = by_name; zero_start = zero_start }

-- the base of each segment that isn't absolute and isn't the stack
base_or : (segments : List Placed) (id fixed other : ℕ) → ((id == fixed) ≡ false → other ≡ base_in segments id)
    → cond (id == fixed) (base_in segments fixed) other ≡ base_in segments id
base_or segments id fixed other gives = elim (cases_Bool (id == fixed)) [
  | inl e ↦ ap (λ b. cond b (base_in segments fixed) other) e ∙ ap (base_in segments) (sym (eqb-true id fixed e))
  | inr e ↦ ap (λ b. cond b (base_in segments fixed) other) e ∙ gives e
]

no_fixed_id : (id : ℕ) → (id == 0) ≡ false → (id == 1) ≡ false → (id == 2) ≡ false → (id == 3) ≡ false → (id == 4) ≡ false
    → (id == 255) ≡ false → is_fixed_id id ≡ false
no_fixed_id id a b c d e f = grind (arith, nat_tests, a, b, c, d, e, f)

pub base_of_id : ModuleLaws → (segments : List Placed) (m : ModuleValue) (id : ℕ) → IsTrue (each_after is_new_common [] m.commons)
    → has_segment m.commons id ≡ true →
    (id == 0) ≡ false → (id == 3) ≡ false → base_of (bases_of m.commons segments) m id ≡ base_in segments id
base_of_id laws segments m id new has not_absolute not_stack =
    let named : ℕ = word_of (map (λ (c : Common). (c.name, base_in segments c.id)) m.commons) (common_name m.commons id) in
    let or_common : ℕ = cond (id == 255) (base_in segments 255) named in
    let or_memory : ℕ = cond (id == 4) (base_in segments 4) or_common in
    let or_data : ℕ = cond (id == 2) (base_in segments 2) or_memory in
    base_or segments id 1 or_data
    (λ b. base_or segments id 2 or_memory (λ c. base_or segments id 4 or_common (λ e. base_or segments id 255 named (λ f.
    laws.by_name m.commons (base_in segments) id new
    (sym (ap (λ fixed. fixed || has_common_id m.commons id) (no_fixed_id id not_absolute b c not_stack e f)) ∙ has)))))

-- the place of an offset in a segment of the program
pub place_of_id : ModuleLaws → (segments : List Placed) (m : ModuleValue) (id offset : ℕ)
    → IsTrue (each_after is_new_common [] m.commons) → has_segment m.commons id ≡ true →
    place_in (bases_of m.commons segments) (m ∷ []) 0 m id offset
    ≡ (if id == 0 then offset else if id == 3 then (top_in segments + offset) % 65536 else (base_in segments id + offset) % 65536)
place_of_id laws segments m id offset new has =
    let at_top : ℕ = (top_in segments + offset) % 65536 in
    let by_base : ℕ → ℕ = λ base. (base + offset) % 65536 in
    let base : ℕ = base_of (bases_of m.commons segments) m id + part_start (m ∷ []) 0 id in
    (elim (id == 0) as (λ b. (id == 0) ≡ b
    → cond b offset (cond (id == 3) at_top (by_base base))
    ≡ cond b offset (cond (id == 3) at_top (by_base (base_in segments id)))) [
      | true ↦ λ _. refl
      | false ↦ λ not_absolute.
          (elim (id == 3) as (λ b. (id == 3) ≡ b → cond b at_top (by_base base) ≡ cond b at_top (by_base (base_in segments id))) [
            | true ↦ λ _. refl
            | false ↦ λ not_stack.
                let same : base ≡ base_in segments id =
                ap (λ n. n + part_start (m ∷ []) 0 id) (base_of_id laws segments m id new has not_absolute not_stack)
                ∙ ap (λ n. base_in segments id + n) (laws.zero_start m id) ∙ omega arith in
                ap by_base same
          ]) refl
    ]) refl
