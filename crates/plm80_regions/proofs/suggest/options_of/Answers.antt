use Rattle.plm80_regions.proofs.Names.{ℕ, List, ◌∙◌, subst, sym, All}
use Rattle.std.specs.Prelude.{map}
use Rattle.std.specs.Borrow.{Bor}
use Rattle.board80.specs.declared.line.{Kind.TheVariants.Rom}
use Rattle.plm80_boards.specs.Boards.{AreDataRangesIn, AreRangesIn}
use Rattle.plm80_console.specs.{AnswerLaws.blames_same, AnswerLaws.blames_so, AnswerLaws.err_from, NumberText.IsWordText}
use Rattle.plm80_regions.specs.CaseTexts.{AreCasesWritten}
use Rattle.plm80_regions.proofs.OptionLemmas.{no_interrupts}
use Rattle.plm80_regions.proofs.suggest.options_of.Goals as goal

pub returns-in_err-rom-clause-fault : goal.returns-in_err-rom-clause-fault
returns-in_err-rom-clause-fault g c =
    let board = c.args.given.now.board in
    err_from c.from_residual.result
    (blames_so (λ lacks rom ram entries cases is. lacks rom
    (subst (λ (values : List (Bor (List ℕ))). AreRangesIn Rom board (map (λ value. value.now) values) rom) (sym c.deref.ensures.value) is.is_rom))
    c.in_err-rom.ensures.fault)

pub returns-in_err-ram-clause-fault : goal.returns-in_err-ram-clause-fault
returns-in_err-ram-clause-fault g c =
    let board = c.args.given.now.board in
    err_from c.from_residual-in_err-ram.result
    (blames_same c.in_ok-rom.ensures.unchanged
    (blames_so (λ lacks rom ram entries cases is. lacks ram
    (subst (λ (values : List (Bor (List ℕ))). AreDataRangesIn board (map (λ value. value.now) values) ram) (sym c.deref-2.ensures.value) is.is_ram))
    c.in_err-ram.ensures.fault))

pub returns-in_err-cases-clause-fault : goal.returns-in_err-cases-clause-fault
returns-in_err-cases-clause-fault g c =
    err_from c.from_residual-in_err-cases.result
    (blames_same (c.in_ok-ram.ensures.unchanged ∙ c.in_ok-rom.ensures.unchanged)
    (blames_so (λ lacks rom ram entries cases is. lacks cases
    (subst (λ (values : List (Bor (List ℕ))). AreCasesWritten (map (λ value. value.now) values) cases) (sym c.deref-3.ensures.value) is.are_cases))
    c.in_err-cases.ensures.fault))

pub returns-in_err-interrupts-clause-fault : goal.returns-in_err-interrupts-clause-fault
returns-in_err-interrupts-clause-fault g c =
    err_from c.from_residual-in_err-interrupts.result
    (blames_same (c.in_ok-cases.ensures.unchanged ∙ c.in_ok-ram.ensures.unchanged ∙ c.in_ok-rom.ensures.unchanged)
    (blames_so (λ lacks rom ram entries cases is. lacks (no_interrupts c.args.given.now.board)) c.in_err-interrupts.ensures.fault))

pub returns-in_err-entries-clause-fault : goal.returns-in_err-entries-clause-fault
returns-in_err-entries-clause-fault g c =
    err_from c.from_residual-in_err-entries.result
    (blames_same
    (c.in_ok-interrupts.ensures.unchanged ∙ c.in_ok-cases.ensures.unchanged ∙ c.in_ok-ram.ensures.unchanged ∙ c.in_ok-rom.ensures.unchanged)
    (blames_so (λ lacks rom ram entries cases is. lacks
    (subst (λ (values : List (Bor (List ℕ))). All (λ value. IsWordText value.now) values) (sym c.deref-4.ensures.value) is.entries_written))
    c.in_err-entries.ensures.fault))
