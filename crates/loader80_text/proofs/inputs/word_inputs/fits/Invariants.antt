use Rattle.std.proofs.Common.{◌≡◌, ◌+◌, length, take}
use Rattle.loader80_text.specs.Text.{text_of}
use Rattle.stream80.specs.WholeText.{text_limit}
use Rattle.loader80_text.proofs.inputs.word_inputs.fits.Given as goal

abbrev pub invariant-loop-input : goal.invariant-loop-input
invariant-loop-input l = l.left + length (text_of (take l.input-index l.inputs)) ≡ text_limit
