-- Regions to which cases are added: their own cases and the new ones, by address. (This project's own.)
use Rattle.std.specs.Prelude.{◌≡◌, ◌<◌, ℕ, Bool, List, ◌∷◌, ◌++◌, All, AllPairs, IsPermutation, None, codes, map}
use Rattle.std.specs.List.{filter_map}
use Rattle.image80.specs.Case.{AreByAddress, DeclaredCase, IsCase}
use Rattle.image80.specs.Image.{Located}
use Rattle.image80.specs.Lines.{text_of}
use Rattle.image80.specs.Regions.{Areas, targets_at}
use Rattle.image80.specs.RegionsText.{Spells, entries_of, entry_text}
use Rattle.verify80_cases.specs.Suggested.{Finding, IsFinding, case_of}

-- cases that can be added to regions: they are by address, each keeps the rules of a case, and the regions declare no targets for their
-- addresses
pub record CanBeAdded (regions : Areas) (cases : List DeclaredCase) : Type 0 where
  pub by_address : AreByAddress cases
  pub each : All IsCase cases
  pub new : All (λ case. targets_at regions case.at ≡ None) cases

-- so are the cases among what is found of the PCHLs of an image, by address
abbrev pub FoundCasesCanBeAdded : Type 0
FoundCasesCanBeAdded = (image : Located) (reached taken : List Bool) (findings : List Finding) → All (IsFinding image reached taken) findings →
    AllPairs (λ (a b : Finding). a.at < b.at) findings → CanBeAdded image.regions (filter_map (λ (finding : Finding). case_of finding.found) findings)

-- the text of version 2 of regions
abbrev pub second_text : Areas → List ℕ
second_text areas = text_of (codes "REGIONS 2" ∷ map entry_text (entries_of areas))

-- the text of version 2 of the regions with all cases, which is read as them
pub record AddsCases (regions : Areas) (cases : List DeclaredCase) (text : List ℕ) : Type 0 where
  pub joined : List DeclaredCase
  pub same : IsPermutation (regions.cases ++ cases) joined
  pub by_address : AreByAddress joined
  pub text_is : text ≡ second_text (record regions { cases = joined })
  pub spelled : Spells text (record regions { cases = joined })
