use Rattle.plm80_regions.proofs.Names.{Some, PrintsCases, PrintsCasesInPart}
use Rattle.plm80_console.specs.AnswerLaws.{given_or_given_up}
use Rattle.plm80_regions.specs.Cases.PrintsCasesInPart.{whole}
use Rattle.plm80_regions.proofs.cases.add_cases.Goals as goal

pub returns-after-is_ok : goal.returns-after-is_ok
returns-after-is_ok g c =
    let answer = c.in-Ok.field-0.answer in
    let old = g.C.Console.journal c.args.console.now in
    let new = g.C.Console.journal c.give-given.new.self in
    record {
      done = (given_or_given_up (PrintsCases (Some c.args.path.now) c.args.image.now) answer old new c.give-given.result c.in-Ok.ensures
          c.give-given.ensures.given c.give-given.ensures.fault).0;
      fault = (given_or_given_up (PrintsCasesInPart (Some c.args.path.now) c.args.image.now) answer old new c.give-given.result
          (whole c.in-Ok.ensures) c.give-given.ensures.given c.give-given.ensures.fault).1;
    }
