use Rattle.std.specs.Prelude.{◌≡◌, List, filter_map, length, map}
use Rattle.std.proofs.Common.{◌∙◌, ap, arith, sym}
use Rattle.std.proofs.lemmas.List.{length-map}
use Rattle.clap.specs.Walk.{Rule}
use Rattle.plm80_console.specs.SyntaxTable.{rule_of_argument}
use Rattle.plm80_console.specs.declared.syntax.Syntax.{Syntax}
use Rattle.plm80.specs.CommandLine.{rule_beside}
use Rattle.plm80.proofs.BesideLemmas.{one_more}
use Rattle.plm80.proofs.commands.untaken.with_arguments.Goals as goal

pub loop-number-preserved : goal.loop-number-preserved
loop-number-preserved c =
    let all = c.args.all.now in
    let arguments = c.args.arguments.now in
    let rules : Syntax → List Rule = λ (syntax : Syntax). filter_map (rule_beside c.args.boarded) (map rule_of_argument syntax.arguments.now) in
    let as_many : length arguments ≡ length all = sym (length-map arguments (λ of. map rule_of_argument of.items)) ∙ ap length c.requires ∙ length-map all rules in
    rw c.in_ok-push.ensures.items
    (one_more _ c.args.boarded all c.loop-number.kept.items arguments c.loop-number.number _ _ c.index-arguments-number.result c.requires
    c.loop-number-test.true (omega (arith, c.loop-number-test.true, as_many)) c.loop-number.invariant
    c.with_these.ensures.name
    (c.with_these.ensures.arguments ∙ c.deref.ensures.value ∙ ap (λ of. of.items) c.index-arguments-number.is))
