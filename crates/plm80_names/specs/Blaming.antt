-- What becomes of a part of a command that gives up, or blames arguments or files. (This project's own.)
use Rattle.std.specs.Prelude.{◌≡◌}
use Rattle.plm80_console.specs.Answer.{AnswerValue, IsGivenUp}
use Rattle.plm80_console.specs.Journal.{Journal, and_blamed}

-- One of these answers was given up, or there was none, which was reported; arguments or files were blamed only if this holds of them.
pub data GivesUpOrBlames (Wrong : Type 0) (Answers : AnswerValue → Type 0) (old new : Journal) : Type 0 where
  given_up : IsGivenUp Answers old new → GivesUpOrBlames Wrong Answers old new
  wrong : Wrong → new ≡ and_blamed old → GivesUpOrBlames Wrong Answers old new
