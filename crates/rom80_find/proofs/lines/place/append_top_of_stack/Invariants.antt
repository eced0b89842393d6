-- what is appended so far, and what the words that are left add
use Rattle.std.proofs.Common.{◌≡◌, ◌++◌, drop}
use Rattle.std.specs.List.{flat_map}
use Rattle.rom80_find.specs.Lines.{top_part}
use Rattle.rom80_find.proofs.lines.place.append_top_of_stack.Given as goal

abbrev pub invariant-loop-word : goal.invariant-loop-word
invariant-loop-word l =
    l.text.items ++ flat_map top_part (drop l.word-index l.words)
    ≡ l.initial.text.items ++ flat_map top_part l.words
