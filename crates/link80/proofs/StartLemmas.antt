-- The start of the linked module is at the place of its module's start.
use Rattle.std.specs.Prelude.{◌≡◌, ℕ, true, Option, Some, None, List, [], ◌∷◌, option_map, filter_map, slice_get, refl}
use Rattle.std.specs.List.{enumerate_from, cons_option}
use Rattle.std.proofs.Common.{ap}
use Rattle.omf_model.specs.Modules.{ModuleValue}
use Rattle.omf_model.specs.Rules.{is_start}
use Rattle.omf_model.specs.Place.{Bases, place_in}
use Rattle.omf_model.specs.SoundModules.{SoundModulesKeepRules, PartsOfOneStartAtZero}
use Rattle.link80.specs.Linked.{moved_start, linked}
use Rattle.link80.specs.LinkLaws.{LinkedStartIsTheModules, start_within}
use Rattle.link80.proofs.LinkLemmas.{few, listed_from}
use Rattle.link80.proofs.PlaceLemmas.{few_commons, place_same}
use Rattle.link80.proofs.ReferenceLemmas.{all_listed}

module _ (zero_start : PartsOfOneStartAtZero) (name : List ℕ) (modules : List ModuleValue) (bases : Bases) (number : few_commons modules) where
  -- where an offset of the linked module lies
  abbrev place : ℕ × ℕ → ℕ
  place s = place_in bases (linked name modules ∷ []) 0 (linked name modules) s.0 s.1

  first_start : (ms : List (ℕ × ModuleValue)) → all_listed modules ms
      → option_map place (slice_get (filter_map (λ m. option_map (moved_start modules m) m.1.start) ms) 0)
      ≡ slice_get (filter_map (λ m. option_map (start_within bases modules m) m.1.start) ms) 0
  first_start [] all = refl
  first_start (m ∷ ms) all =
      let others = first_start ms all.1 in
      (elim m.1.start as (λ (o : Option (ℕ × ℕ)). is_start m.1.commons o ≡ true
      → option_map place (slice_get (cons_option (option_map (moved_start modules m) o) (filter_map (λ n. option_map (moved_start modules n) n.1.start) ms)) 0)
      ≡ slice_get (cons_option (option_map (start_within bases modules m) o) (filter_map (λ n. option_map (start_within bases modules n) n.1.start) ms)) 0) [
        | None ↦ λ _. others
        | Some s ↦ λ has. ap (λ (at : ℕ). Some at) (place_same zero_start name modules m.0 m.1 bases s.0 s.1 number all.0 has)
      ]) all.0.rules.start

pub linked_start : PartsOfOneStartAtZero → SoundModulesKeepRules → LinkedStartIsTheModules
linked_start zero_start rules name modules bases are_modules no_fault =
    first_start zero_start name modules bases (few modules no_fault) (enumerate_from 0 modules) (listed_from rules modules [] modules 0 refl are_modules)
