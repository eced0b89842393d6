use Rattle.std.proofs.Common.{◌≡◌, ◌++◌, take}
use Rattle.std.specs.List.{flat_map}
use Rattle.verify80_explain_text.specs.Frames.{word_shown}
use Rattle.verify80_explain_text.proofs.frame.append_words.Given as goal

abbrev pub invariant-loop-word : goal.invariant-loop-word
invariant-loop-word l = l.text.items ≡ l.initial.text.items ++ flat_map word_shown (take l.word-index l.words)
