use Rattle.std.specs.Prelude.{◌≡◌, ◌++◌, map, string_bytes, take}
use Rattle.plm80_console.proofs.joined_values.push_copies.Given as goal

-- the words so far
abbrev pub invariant-loop-word : goal.invariant-loop-word
invariant-loop-word l =
    map string_bytes l.copies.items ≡ map string_bytes l.initial.copies.items ++ map string_bytes (take l.word-index l.words)
