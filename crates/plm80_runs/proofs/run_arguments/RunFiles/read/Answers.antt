use Rattle.loader80.specs.InputsText.{bad_line}
use Rattle.plm80_runs.proofs.Names.{◌∙◌, ap, refl, run_files, run_paths}
use Rattle.plm80_console.specs.AnswerLaws.{blamed_after, blames_same, err_from}
use Rattle.plm80_console.specs.Journal.OnlyBlames.{other}
use Rattle.plm80_runs.specs.Running.{HaveNoRun}
use Rattle.plm80_runs.proofs.run_arguments.RunFiles.read.Goals as goal

pub returns-in_err-texts-clause-fault : goal.returns-in_err-texts-clause-fault
returns-in_err-texts-clause-fault g c = err_from c.from_residual.result (other c.in_err-texts.ensures.fault)

pub returns-in_err-image-clause-fault : goal.returns-in_err-image-clause-fault
returns-in_err-image-clause-fault g c =
    err_from c.from_residual-in_err-image.result
    (blamed_after (g.C.Console.journal c.args.console.now) (g.C.Console.journal c.texts.new.console) (g.C.Console.journal c.program.new.console)
    (run_files c.args.self c.in_ok-texts.texts) (run_paths c.args.self) refl c.in_ok-texts.ensures.read (HaveNoRun c.args.self.program.names)
    (λ lacks image publics are good. lacks image publics are) c.in_err-image.ensures.fault)

pub returns-in_err-inputs-clause-fault : goal.returns-in_err-inputs-clause-fault
returns-in_err-inputs-clause-fault g c =
    err_from c.from_residual-in_err-inputs.result
    (blamed_after (g.C.Console.journal c.args.console.now) (g.C.Console.journal c.texts.new.console) (g.C.Console.journal c.inputs_of.new.console)
    (run_files c.args.self c.in_ok-texts.texts) (run_paths c.args.self) refl c.in_ok-texts.ensures.read (HaveNoRun c.args.self.program.names)
    (λ bad image publics are good. bad (ap bad_line c.deref.ensures.value ∙ good)) (blames_same c.in_ok-image.ensures.unchanged c.in_err-inputs.ensures.fault))
