use Rattle.std.proofs.Common.{◌≡◌, ◌∙◌, ap, arith, sym}
use Rattle.std.specs.List.{list_any}
use Rattle.std.proofs.lemmas.{List.take_all, List.Folds.list_any_at}
use Rattle.plm80_console.specs.{JoinedValues.is_option, SyntaxTable.rule_of_argument}
use Rattle.plm80_console.proofs.JoinedLemmas.{without_why}
use Rattle.plm80_console.proofs.syntax.Syntax.takes_value.Goals as goal

pub returns-then-is_option : goal.returns-then-is_option
returns-then-is_option c =
    sym (without_why c.args.word.now c.args.self.now.arguments.now
    ∙ list_any_at (λ argument. is_option c.args.word.now (rule_of_argument argument)) c.args.self.now.arguments.now
    c.loop-argument.argument-index _ c.loop-argument-test.true (sym c.is_option.ensures ∙ c.if-is_option.true))

pub returns : goal.returns
returns c =
    sym (without_why c.args.word.now c.args.self.now.arguments.now
    ∙ (ap (list_any (λ argument. is_option c.args.word.now (rule_of_argument argument)))
    (sym (take_all c.loop-argument.argument-index c.args.self.now.arguments.now (omega (arith, c.loop-argument-test.false))))
    ∙ c.loop-argument.invariant))
