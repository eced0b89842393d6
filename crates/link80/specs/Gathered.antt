-- What is found while the names of publics and the main programs are gathered.
use Rattle.std.specs.Prelude.{◌≡◌, ℕ, if◌then◌else◌, Option, Some, None, option_map, List, [], ◌∷◌, ◌++◌, filter_map, map}
use Rattle.std.specs.List.{enumerate_from}
use Rattle.omf_model.specs.Modules.{ModuleValue}
use Rattle.link80.specs.declared.fault.LinkFault.{LinkFault}
use Rattle.link80.specs.declared.fault.LinkFault.TheVariants.{DuplicatePublic}
use Rattle.link80.specs.FirstSight.{is_among}

abbrev pub names_of_publics : ModuleValue → List (List ℕ)
names_of_publics m = map (λ p. p.name) m.publics

-- the first of these names that stands before
abbrev pub again_in : List (List ℕ) → List (List ℕ) → Option (List ℕ)
again_in before [] = None
again_in before (n ∷ ns) = if is_among before n then Some n else again_in (before ++ n ∷ []) ns

-- the names were all new, and stand last
pub record TakesNames (before names after : List (List ℕ)) : Type 0 where
  pub after_is : after ≡ before ++ names
  pub again : (rest : List (List ℕ)) → again_in before (names ++ rest) ≡ again_in after rest

-- one of the names stood before
abbrev pub RepeatsName : List (List ℕ) → List (List ℕ) → LinkFault → Type 0
RepeatsName before names fault = (rest : List (List ℕ))
    → option_map DuplicatePublic (again_in before (names ++ rest)) ≡ Some fault

-- the numbers of the main programs
abbrev pub mains_from : ℕ → List ModuleValue → List ℕ
mains_from number modules = filter_map (λ m. option_map (λ start. m.0) m.1.start) (enumerate_from number modules)
