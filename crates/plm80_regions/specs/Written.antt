-- What `regions` and `cases --out` write.
-- (The text of regions is this project's own.)
use Rattle.std.specs.Prelude.{◌≡◌, ℕ, List, [], ◌∷◌}
use Rattle.image80.specs.RegionsText.{Migrates}
use Rattle.plm80_console.specs.{Answer.AnswerValue, Answer.writes, Journal.FileValue}

-- the text of version 2 of the regions that another text spells goes to a file
pub record WritesMigrated (old path : List ℕ) (answer : AnswerValue) : Type 0 where
  pub text : List ℕ
  pub migrated : Migrates old [] text
  pub answer_is : answer ≡ writes path text []

-- the same of a file that was read
abbrev pub AnswersRegions : (path : List ℕ) → List FileValue → AnswerValue → Type 0
AnswersRegions path (old ∷ []) answer = WritesMigrated old.bytes path answer
AnswersRegions path files answer = ⊥
