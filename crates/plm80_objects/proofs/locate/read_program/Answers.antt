use Rattle.plm80_console.specs.AnswerLaws.{err_from, only_blames_so}
use Rattle.plm80_console.specs.Journal.{OnlyBlames.wrong, and_blamed}
use Rattle.plm80_objects.proofs.FaultLemmas.{no_program_there, not_one}
use Rattle.std.specs.Prelude.{◌≢◌}
use Rattle.plm80_objects.proofs.Names.{[], ◌∷◌, arith, length, refl, ◌∙◌, ap, file_value}
use Rattle.plm80_objects.proofs.locate.read_program.Goals as goal

pub returns-else-len-eq1-clause-fault : goal.returns-else-len-eq1-clause-fault
returns-else-len-eq1-clause-fault g c =
    let read = c.in_ok-modules.ensures.read in
    let several : length c.in_ok-modules.modules.items ≢ 1 = λ one. c.if-len-eq1.false (grind arith) in
    wrong (file_value c.args.path.now read.0 ∷ []) [] refl
    (not_one c.one_file_reading.ensures.file read.0 c.in_ok-modules.modules.items read.2 several)
    (c.blame_file-reported.ensures ∙ ap and_blamed read.1)

pub returns-in_err-modules-clause-fault : goal.returns-in_err-modules-clause-fault
returns-in_err-modules-clause-fault g c = err_from c.from_residual.result (only_blames_so no_program_there c.in_err-modules.ensures.fault)
