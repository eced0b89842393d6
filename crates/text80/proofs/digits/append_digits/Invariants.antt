-- the digits of the bytes so far
use Rattle.std.proofs.Common.{◌≡◌, ◌++◌, take}
use Rattle.std.specs.List.{flat_map}
use Rattle.text80.specs.Digits.{byte_text}
use Rattle.text80.proofs.digits.append_digits.Given as goal

abbrev pub invariant-loop-byte : goal.invariant-loop-byte
invariant-loop-byte l = l.out.items ≡ l.initial.out.items ++ flat_map byte_text (take l.byte-index l.bytes)
