-- What reading a whole source does to the bytes that it delivers, and which of its answers is a failure of the source.
use Rattle.std.specs.Prelude.{ℕ, ◌≤◌, List, length, Option, Result, Ok, Err}
use Rattle.std.specs.Io.KnownBytes.{Consumes}
use Rattle.stream80.specs.declared.whole.ReadAllFault.{ReadAllFault}
use Rattle.stream80.specs.declared.whole.ReadAllFault.TheVariants.{Read, TooLong, Memory}

-- the greatest number of bytes of a text
abbrev pub text_limit : ℕ
text_limit = 1048576

-- at most n bytes were taken
abbrev pub TakesAtMost : ℕ → Option (List ℕ) → Option (List ℕ) → Type 0
TakesAtMost n old new = (bytes : List ℕ) × (length bytes ≤ n) × Consumes old new bytes

-- a whole text that was not given for a refused read is a failure of its source; no other answer is
abbrev pub read_all_failures : {A : Type 0} → Result A ReadAllFault → ℕ
read_all_failures (Ok x) = 0
read_all_failures (Err Read) = 1
read_all_failures (Err TooLong) = 0
read_all_failures (Err Memory) = 0
