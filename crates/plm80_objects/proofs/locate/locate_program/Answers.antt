use Rattle.place80.specs.declared.place_fault.PlaceFault.TheVariants.{Memory}
use Rattle.plm80_console.specs.AnswerLaws.{blames_so}
use Rattle.plm80_objects.specs.Locate.{fault_of}
use Rattle.plm80_objects.proofs.FaultLemmas.{is_there}
use Rattle.plm80_objects.proofs.locate.locate_program.Goals as goal

pub returns-after-arguments-clause-fault : goal.returns-after-arguments-clause-fault
returns-after-arguments-clause-fault g c =
    blames_so
    (λ other answer is. is_there (fault_of c.args.arguments.now.restart c.args.options.now c.args.program.now) Memory c.in-Err.fault c.in-Err.ensures.fault other is.none)
    c.report_place_fault-reported.ensures
