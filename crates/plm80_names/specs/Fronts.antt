-- What was written of lines that are written as they come, when a fault stopped them.
use Rattle.std.specs.Prelude.{◌≡◌, ◌⊎◌, ℕ, List, [], Option}
use Rattle.std.specs.Io.KnownBytes.{Appends}
use Rattle.loader80_trace.specs.Traces.{AppendsFront}
use Rattle.plm80_console.specs.Answer.{AnswerValue}

-- nothing, or a front part of such a text
abbrev pub LeavesFront : (Part : List ℕ → Type 0) → (old new : Option (List ℕ)) → Type 0
LeavesFront Part old new = Appends old new [] ⊎ ((text : List ℕ) × Part text × AppendsFront old new text)

-- what one of these answers prints first
abbrev pub IsFirstOf : (Answers : AnswerValue → Type 0) → (text : List ℕ) → Type 0
IsFirstOf Answers text = (answer : AnswerValue) × Answers answer × (text ≡ answer.first)
