-- Bytes spelled by hexadecimal digits, two for each byte.
use Rattle.std.specs.Prelude.{ℕ, List, Option}
use Rattle.std.specs.Result.{result_ok}
use Rattle.hex.specs.Hex.{decode_of}

-- the bytes that digits in either case spell, None if these are not such digits
abbrev pub bytes_spelled : List ℕ → Option (List ℕ)
bytes_spelled digits = result_ok (decode_of digits)
