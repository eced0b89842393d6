use Rattle.std.proofs.Common.{◌≡◌, ◌++◌, codes, take}
use Rattle.std.specs.List.{flat_map}
use Rattle.image80_source.specs.SourceText.{byte_number}
use Rattle.image80_source.proofs.text.append_others.Given as goal

abbrev pub invariant-loop-byte : goal.invariant-loop-byte
invariant-loop-byte l = l.out.items ≡ l.initial.out.items ++ flat_map (λ b. codes "," ++ byte_number b) (take l.byte-index l.bytes)
