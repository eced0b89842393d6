use Rattle.plm80_console.specs.AnswerLaws.{blames_so}
use Rattle.plm80_files.proofs.program_files.image_of.Goals as goal

pub returns-clause-fault : goal.returns-clause-fault
returns-clause-fault g c =
    blames_so
    (λ no_memory program spelled. c.one_image_reading.ensures.never_both c.args.bytes.now program c.in-Err.fault spelled
    (c.in-Err.ensures.fault no_memory))
    c.report_image.ensures
