use Rattle.plm80_regions.proofs.Names.{cases_path}
use Rattle.plm80_regions.proofs.CaseLemmas.{cases_or_gives_up}
use Rattle.plm80_console.specs.AnswerLaws.{err_from, gives_up_unanswered}
use Rattle.plm80_names.specs.VerdictLaws.{no_program}
use Rattle.plm80_regions.specs.Cases.{AnswersCasesInPart, PrintsCasesInPart}
use Rattle.plm80_regions.proofs.cases.suggest_for_files.Goals as goal

pub returns : goal.returns
returns g c =
    let both = cases_or_gives_up c.in_ok-image.ensures.read (g.C.Console.journal c.suggest.new.console) (cases_path c.args.arguments)
    c.suggest.result c.suggest.ensures.done c.suggest.ensures.fault in
    record { done = both.0; fault = both.1 }

pub returns-in_err-image-clause-fault : goal.returns-in_err-image-clause-fault
returns-in_err-image-clause-fault g c =
    let path = cases_path c.args.arguments in
    err_from c.from_residual.result
    (gives_up_unanswered (AnswersCasesInPart path)
    (λ files lacks others answer named is. no_program (λ image publics. PrintsCasesInPart path image) files lacks others answer named is.is)
    c.in_err-image.ensures.fault)
