use Rattle.plm80_runs.proofs.Names.{[], ◌∷◌, refl, ◌∙◌, ap, and_reported, file_value}
use Rattle.plm80_console.specs.AnswerLaws.{err_from, more_paths}
use Rattle.plm80_console.specs.Journal.OnlyReports.{read as read_it}
use Rattle.plm80_runs.proofs.run_arguments.RunFiles.texts.Goals as goal

pub returns-in_err-program-clause-fault : goal.returns-in_err-program-clause-fault
returns-in_err-program-clause-fault g c =
    err_from c.from_residual.result (more_paths (c.args.self.inputs.now ∷ []) c.in_err-program.ensures.fault)

pub returns-in_err-inputs-clause-fault : goal.returns-in_err-inputs-clause-fault
returns-in_err-inputs-clause-fault g c =
    let paths = c.args.self in
    let texts = c.in_ok-program.program in
    err_from c.from_residual-in_err-inputs.result
    (read_it
    (file_value paths.program.image.now texts.image.bytes.items ∷ file_value paths.program.regions.now texts.regions.bytes.items ∷ [])
    (paths.inputs.now ∷ []) refl (c.in_err-inputs.ensures.fault ∙ ap and_reported c.in_ok-program.ensures.read))
