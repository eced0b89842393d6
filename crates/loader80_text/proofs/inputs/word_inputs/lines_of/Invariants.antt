use Rattle.std.proofs.Common.{◌≡◌, take, string_bytes}
use Rattle.loader80_text.specs.Text.{text_of}
use Rattle.loader80_text.proofs.inputs.word_inputs.lines_of.Given as goal

abbrev pub invariant-loop-input : goal.invariant-loop-input
invariant-loop-input l = string_bytes l.text ≡ text_of (take l.input-index l.inputs)
