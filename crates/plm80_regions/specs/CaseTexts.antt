-- Cases as the option `--case` writes them: 1004=00DE,00E5. (This form is this project's own.)
use Rattle.std.specs.Prelude.{◌≡◌, ◌↔◌, ℕ, List, [], ◌∷◌, ◌++◌, All, Contains, IsPermutation}
use Rattle.image80.specs.Case.{AreByAddress, DeclaredCase, IsCase}
use Rattle.plm80_console.specs.NumberText.{IsWordText, word_value}

-- targets, at least one, with commas between them
pub data AreTargetTexts : (text : List ℕ) → List ℕ → Type 0 where
  last : (text : List ℕ) → IsWordText text → AreTargetTexts text (word_value text ∷ [])
  more : (first behind : List ℕ) (targets : List ℕ) → IsWordText first → AreTargetTexts behind targets
      → AreTargetTexts (first ++ 44 ∷ behind) (word_value first ∷ targets)

-- an address, an equals sign, and targets, which are a set
pub record IsCaseText (text : List ℕ) (case : DeclaredCase) : Type 0 where
  pub first : List ℕ
  pub behind : List ℕ
  pub text_is : text ≡ first ++ 61 ∷ behind
  pub is_word : IsWordText first
  pub at : case.at ≡ word_value first
  pub rules : IsCase case
  pub written : List ℕ
  pub are_written : AreTargetTexts behind written
  pub targets : (target : ℕ) → Contains case.targets target ↔ Contains written target

-- the cases that texts write, one after another
pub data AreCaseTexts : (texts : List (List ℕ)) → List DeclaredCase → Type 0 where
  none : AreCaseTexts [] []
  more : (texts : List (List ℕ)) (text : List ℕ) (cases : List DeclaredCase) (case : DeclaredCase)
      → AreCaseTexts texts cases → IsCaseText text case → AreCaseTexts (texts ++ text ∷ []) (cases ++ case ∷ [])

-- the same by address, each address once
pub record AreCasesWritten (texts : List (List ℕ)) (cases : List DeclaredCase) : Type 0 where
  pub written : List DeclaredCase
  pub are_written : AreCaseTexts texts written
  pub same : IsPermutation written cases
  pub by_address : AreByAddress cases
  pub each : All IsCase cases
