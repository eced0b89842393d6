use Rattle.std.proofs.Common.{rules, refl, arith}
use Rattle.verify80_suggest.specs.Suggestion.IsWanted.{measured, refused}
use Rattle.verify80_suggest.proofs.StackLemmas.{least_of, more_of}
use Rattle.verify80_suggest.proofs.suggesting.wanted_stack.Goals as goal

pub returns-in-Ok : goal.returns-in-Ok
returns-in-Ok c =
    measured c.in-Ok.report.procedures.items c.in-Ok.report.stack_bytes c.in-Ok.ensures.measured (least_of c.in-Ok.report.stack_bytes (omega (arith, c.if-measure-le-LEAST_STACK.true)))

pub returns-in-Ok-2 : goal.returns-in-Ok-2
returns-in-Ok-2 c =
    measured c.in-Ok.report.procedures.items c.in-Ok.report.stack_bytes c.in-Ok.ensures.measured (more_of c.in-Ok.report.stack_bytes (omega (arith, c.if-measure-le-LEAST_STACK.false)))

pub returns-in-Err : goal.returns-in-Err
returns-in-Err c = refused c.in-Err.field-0 (search rules) c.in-Err.ensures.refused refl
