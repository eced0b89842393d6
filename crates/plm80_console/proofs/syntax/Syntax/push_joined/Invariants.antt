use Rattle.std.specs.Prelude.{◌≡◌, ◌++◌, length, map, string_bytes}
use Rattle.plm80_console.specs.{JoinedValues.joined_values, SyntaxTable.shape_of_syntax}
use Rattle.plm80_console.proofs.syntax.Syntax.push_joined.Given as goal

-- what was appended, and what is left to append
abbrev pub invariant-loop-rest : goal.invariant-loop-rest
invariant-loop-rest l =
    map string_bytes l.joined.items ++ joined_values (shape_of_syntax l.self).rules (map string_bytes l.rest)
    ≡ map string_bytes l.initial.joined.items ++ joined_values (shape_of_syntax l.self).rules (map string_bytes l.fn.words)

abbrev pub decreases-loop-rest : goal.decreases-loop-rest
decreases-loop-rest l = length l.rest
