use Rattle.std.proofs.Common.{◌≡◌, ◌∙◌, ap, arith, map, refl}
use Rattle.std.proofs.lemmas.{List.take_all, Result.IfOk-weaker}
use Rattle.plm80_console.proofs.CommandLemmas.{app_with, next, one_more}
use Rattle.plm80_console.specs.SyntaxTable.{rule_of_argument}
use Rattle.plm80_console.proofs.syntax.Syntax.command.Goals as goal

pub loop-argument-preserved : goal.loop-argument-preserved
loop-argument-preserved c =
    next c.loop-argument.command c.in_ok-command.command c.in_ok-arg.field-0 c.args.self.now.name.now c.args.self.now.arguments.now
    c.loop-argument.argument-index _ c.in_ok-command.ensures c.loop-argument.invariant c.loop-argument-test.true c.in_ok-arg.ensures.local
    c.in_ok-arg.ensures.rule

pub returns : goal.returns
returns c = IfOk-weaker c.arg-3.result _ _
    (λ command adds. one_more c.loop-argument.command command c.in_ok-arg-2.field-0 c.args.self.now.name.now _ _ adds
    c.in_ok-arg-2.ensures.local
    (c.loop-argument.invariant ∙ ap (λ arguments. app_with c.args.self.now.name.now (map rule_of_argument arguments))
    (take_all c.loop-argument.argument-index c.args.self.now.arguments.now (omega (arith, c.loop-argument-test.false))))
    c.in_ok-arg-2.ensures.rule)
    c.arg-3.ensures
