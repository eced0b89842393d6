use Rattle.plm80_programs.proofs.Names.{asks_names, program_paths, subst, sym, AnswersProgram, AnswersStores, List, Range}
use Rattle.std.specs.Prelude.{[], map, ℕ}
use Rattle.std.specs.Borrow.{Bor}
use Rattle.image80.specs.Regions.{Areas}
use Rattle.plm80_boards.specs.RangeLaws.{one_list_of_ranges}
use Rattle.plm80_console.specs.{Answer.AnswerValue, Journal.FileValue, Ranges.AreRangesOf}
use Rattle.plm80_programs.specs.Printed.{AreNamedData, PrintsStoresOn}
use Rattle.plm80_names.specs.VerdictLaws.{more_answered, more_given_up_or_blamed, no_program, program_files, same_regions}
use Rattle.plm80_console.specs.AnswerLaws.{err_from, gives_up_unanswered, only_blames_same, wrong_so_far}
use Rattle.plm80_programs.proofs.BlamedLemmas.{named_data}
use Rattle.std.proofs.Common.{refl}
use Rattle.plm80_programs.proofs.stores.list_on_board.Goals as goal

pub returns : goal.returns
returns g c =
    let asked = c.args.arguments.now in
    let board = c.args.board.now.board in
    let named = c.in_ok-named.named.items in
    let image = c.in_ok-image.image in
    let read = c.in_ok-image.ensures.read in
    let first = g.C.Console.journal c.args.console.now in
    let new = g.C.Console.journal c.print_on_board-given.new.console in
    let Prints = PrintsStoresOn board named in
    let written : AreRangesOf (map (λ range. range.now) asked.quiet.items) named =
    subst (λ (values : List (Bor (List ℕ))). AreRangesOf (map (λ value. value.now) values) named) c.deref.ensures.value c.in_ok-named.ensures.ranges in
    let more : (files : List FileValue) (answer : AnswerValue) → AnswersProgram Prints (asks_names asked.files) files answer → AnswersStores asked board files answer =
    λ files answer is. record { named = named; written = written; is = is } in
    let none : (AreNamedData board image.regions named → ⊥) → (answer : AnswerValue) → AnswersStores asked board (program_files read new) answer → ⊥ =
    λ lacks answer is.
    lacks
    (subst (λ (areas : Areas). AreNamedData board areas named)
    (same_regions read new (PrintsStoresOn board is.named) c.text_of_regions_is_read_as_itself.ensures.one_reading answer is.is)
    (subst (λ (ranges : List Range). AreNamedData board is.is.image.regions ranges)
    (one_list_of_ranges (map (λ range. range.now) asked.quiet.items) is.named named is.written written)
    (named_data board is.is.image.regions is.named is.is.answers.quiet is.is.answers.is_quiet is.is.answers.prints_stores.are_data))) in
    record {
      done = more_answered read new Prints (AnswersStores asked board) more first c.in_ok-named.ensures.unchanged c.print_on_board-given.result
          c.print_on_board-given.ensures.done;
      fault = more_given_up_or_blamed read new Prints (AnswersStores asked board) more first c.in_ok-named.ensures.unchanged
          c.print_on_board-given.result none c.print_on_board-given.ensures.fault;
    }

pub returns-in_err-named-clause-fault : goal.returns-in_err-named-clause-fault
returns-in_err-named-clause-fault g c =
    let asked = c.args.arguments.now in
    let old = g.C.Console.journal c.args.console.now in
    err_from c.from_residual.result
    (wrong_so_far (AnswersStores asked c.args.board.now.board) (program_paths asked.files) old old (g.C.Console.journal c.ranges_of.new.console) []
    (program_paths asked.files) refl refl
    (λ lacks others answer named is. lacks is.named
    (subst (λ (values : List (Bor (List ℕ))). AreRangesOf (map (λ value. value.now) values) is.named) (sym c.deref.ensures.value) is.written))
    c.in_err-named.ensures.fault)

pub returns-in_err-image-clause-fault : goal.returns-in_err-image-clause-fault
returns-in_err-image-clause-fault g c =
    let board = c.args.board.now.board in
    err_from c.from_residual-in_err-image.result
    (gives_up_unanswered (AnswersStores c.args.arguments.now board)
    (λ files lacks others answer named is. no_program (PrintsStoresOn board is.named) files lacks others answer named is.is)
    (only_blames_same c.in_ok-named.ensures.unchanged c.in_err-image.ensures.fault))
