use Rattle.plm80_regions.proofs.CaseTextLemmas.{shared_address, sorted_cases}
use Rattle.std.proofs.Common.{ap, ◌∙◌}
use Rattle.std.specs.Prelude.{map}
use Rattle.plm80_console.specs.{AnswerLaws.blames_so, AnswerLaws.err_from, Journal.and_blamed, Journal.Blames.wrong}
use Rattle.plm80_regions.proofs.case_texts.cases_of.Goals as goal

pub returns-in-None-clause-cases : goal.returns-in-None-clause-cases
returns-in-None-clause-cases g c =
    sorted_cases _ c.in_ok-cases.cases.items c.sort_cases.new.cases.items c.in_ok-cases.ensures.cases c.in-None.ensures.permutation c.in-None.ensures.by_address

pub returns-in-Some-clause-fault : goal.returns-in-Some-clause-fault
returns-in-Some-clause-fault g c =
    wrong
    (λ cases. shared_address (map (λ value. value.now) c.args.values.now) c.in_ok-cases.cases.items c.sort_cases.new.cases.items cases c.in_ok-cases.ensures.cases
    c.in-Some.ensures.permutation c.in-Some.ensures.twice)
    (c.blame-reported.ensures ∙ ap and_blamed c.in_ok-cases.ensures.unchanged)

pub returns-in_err-cases-clause-fault : goal.returns-in_err-cases-clause-fault
returns-in_err-cases-clause-fault g c =
    err_from c.from_residual.result (blames_so (λ lacks cases is. lacks is.written is.are_written) c.in_err-cases.ensures.fault)
