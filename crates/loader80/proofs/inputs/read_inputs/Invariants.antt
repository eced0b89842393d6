use Rattle.std.proofs.Common.{◌≡◌, ◌+◌, ◌≤◌, ◌++◌, length}
use Rattle.image80.specs.Lines.{parts}
use Rattle.loader80.specs.InputsText.{bad_part, inputs_of}
use Rattle.loader80.proofs.inputs.read_inputs.Given as goal

abbrev pub invariant-loop-line : goal.invariant-loop-line
invariant-loop-line l = record {
  numbered : l.number + length l.rest ≤ length l.bytes + 1;
  same_bad : bad_part l.number (parts l.rest) ≡ bad_part 1 (parts l.bytes);
  spelled : inputs_of l.bytes ≡ l.pairs.items ++ inputs_of l.rest;
}

abbrev pub decreases-loop-line : goal.decreases-loop-line
decreases-loop-line l = length l.rest
