use Rattle.plm80_runs.proofs.Names.{◌≡◌, ◌∙◌, Some, None, rules, subst, sym}
use Rattle.loader80.specs.InputsText.{InputsFaultHolds, bad_line}
use Rattle.loader80.specs.declared.inputs.InputsFault.{InputsFault}
use Rattle.loader80.specs.declared.inputs.InputsFault.TheVariants.{BadLine}
use Rattle.plm80_console.specs.Journal.Blames.{wrong}
use Rattle.plm80_runs.proofs.run_arguments.RunFiles.inputs_of.Goals as goal

pub returns-in-Err-BadLine-clause-fault : goal.returns-in-Err-BadLine-clause-fault
returns-in-Err-BadLine-clause-fault g c =
    let same : c.in-Err-BadLine.field-0 ≡ BadLine c.in-Err-BadLine.number = search rules in
    let is : bad_line c.args.text.now ≡ Some c.in-Err-BadLine.number =
    subst (λ (f : InputsFault). InputsFaultHolds c.args.text.now f) same c.in-Err-BadLine.ensures.fault in
    wrong (λ none. let bad : Some c.in-Err-BadLine.number ≡ None = sym is ∙ none in cc) c.blame_file-reported.ensures
