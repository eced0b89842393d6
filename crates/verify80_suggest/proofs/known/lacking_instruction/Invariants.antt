-- an instruction begins at each address so far
use Rattle.std.specs.Prelude.{◌≡◌, All, take, true}
use Rattle.verify80_suggest.specs.Known.{has_instruction}
use Rattle.verify80_suggest.proofs.known.lacking_instruction.Given as goal

abbrev pub invariant-loop-at : goal.invariant-loop-at
invariant-loop-at l = All (λ at. has_instruction l.code at ≡ true) (take l.at-index l.addresses)
