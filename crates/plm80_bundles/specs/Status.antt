-- The exit status of a run, and words on how it ended. (This project's own.)
use Rattle.std.specs.Prelude.{ℕ, Option, None, Some}
use Rattle.machine80.specs.declared.end.End.TheVariants.{Halt, InputEnd, OutputRefused, StoreOutside, JumpOutside}
use Rattle.machine80.specs.declared.end.End.{End}
use Rattle.plm80_bundles.specs.declared.status.EndWords.{EndWords}
use Rattle.plm80_bundles.specs.declared.status.EndWords.TheVariants as words

-- of a run: 0 if it halted, 4 if its steps were used up, and 3 if it ended otherwise
abbrev pub end_status : Option End → ℕ
end_status None = 4
end_status (Some Halt) = 0
end_status (Some _) = 3

-- of which ends words say where the instruction stands: those at a port, a store or a PCHL; and that the steps were used up
abbrev pub end_words : Option End → (at : ℕ) → Option EndWords
end_words (Some (InputEnd port)) at = Some (words.NoInput at port)
end_words (Some (OutputRefused port)) at = Some (words.OutputRefused at port)
end_words (Some (StoreOutside address)) at = Some (words.StoreOutside at)
end_words (Some (JumpOutside address)) at = Some (words.JumpOutside at)
end_words (Some other) at = None
end_words None at = Some words.StepsUsed
