use Rattle.std.specs.Prelude.{◌≡◌, false, take}
use Rattle.std.specs.List.{list_any}
use Rattle.plm80_console.specs.{JoinedValues.is_option, SyntaxTable.rule_of_argument}
use Rattle.plm80_console.proofs.syntax.Syntax.takes_value.Given as goal

-- the word is none of those so far
abbrev pub invariant-loop-argument : goal.invariant-loop-argument
invariant-loop-argument l =
    list_any (λ argument. is_option l.word (rule_of_argument argument)) (take l.argument-index l.self.arguments.now) ≡ false
