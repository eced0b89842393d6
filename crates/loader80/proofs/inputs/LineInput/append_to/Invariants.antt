use Rattle.std.proofs.Common.{◌≡◌, ◌++◌, take}
use Rattle.loader80.specs.InputsText.{pairs_of}
use Rattle.loader80.proofs.inputs.LineInput.append_to.Given as goal

abbrev pub invariant-loop-byte : goal.invariant-loop-byte
invariant-loop-byte l = l.pairs.items ≡ l.fn.pairs.items ++ pairs_of l.self.port (take l.byte-index l.byte-items)
