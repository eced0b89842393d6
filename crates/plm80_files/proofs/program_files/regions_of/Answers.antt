use Rattle.plm80_console.specs.AnswerLaws.{blames_so}
use Rattle.plm80_files.proofs.program_files.regions_of.Goals as goal

pub returns-in-Err-clause-fault : goal.returns-in-Err-clause-fault
returns-in-Err-clause-fault g c =
    blames_so
    (λ no_memory areas spelled. no_memory
    (c.text_of_regions_is_read_as_itself.ensures.not_refused c.args.text.now areas c.in-Err.fault spelled c.in-Err.ensures.refused))
    c.report_regions-reported.ensures
