-- Which answers of a reader and of a writer count as a failure.
use Rattle.std.specs.Prelude.{ℕ, zero, suc, Result, Ok, Err}

-- a read counts as a failure if it is refused
abbrev pub read_failures : {E : Type 0} → Result ℕ E → ℕ
read_failures (Ok n) = 0
read_failures (Err e) = 1

-- a write counts as a failure if it is refused, or takes no byte
abbrev pub write_failures : {E : Type 0} → Result ℕ E → ℕ
write_failures (Ok zero) = 1
write_failures (Ok (suc n)) = 0
write_failures (Err e) = 1

-- an answer that is a failure wherever it is an error
abbrev pub error_failures : {A E : Type 0} → Result A E → ℕ
error_failures (Ok x) = 0
error_failures (Err e) = 1
