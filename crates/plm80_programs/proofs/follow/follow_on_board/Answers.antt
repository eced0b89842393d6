use Rattle.plm80_programs.proofs.Names.{◌∙◌, asks_names, program_paths, refl, subst, sym, AnswersFollowing, AnswersProgram, List, Range}
use Rattle.std.specs.Prelude.{[], map, ℕ, Bool, Option, None, Some}
use Rattle.std.specs.Borrow.{Bor}
use Rattle.board80.specs.declared.line.Line.{Line}
use Rattle.image80.specs.{Image.Located, Regions.Areas}
use Rattle.omf_model.specs.declared.symbols.Public.{Public}
use Rattle.plm80_boards.specs.{Boards.AreInterruptsIn, RangeLaws.one_list_of_ranges}
use Rattle.plm80_console.specs.{Answer.AnswerValue, Journal.FileValue, Ranges.AreRangesOf}
use Rattle.plm80_programs.specs.{Following.PrintsFollowedOn, Printed.AreNamedData}
use Rattle.plm80_console.specs.AnswerLaws.{blames_same, err_from, gives_up_unanswered, only_blames_same, wrong_so_far}
use Rattle.plm80_names.specs.VerdictLaws.{more_answered, more_given_up_or_blamed, no_program, program_files, same_regions}
use Rattle.plm80_programs.proofs.follow.follow_on_board.Goals as goal

-- an answer has the ranges that are named as data
named_data : (board : Option (List Line)) (named : List Range) (interrupted : Bool) (handlers : List ℕ) (lists : Bool) (image : Located) (publics : List Public)
    (answer : AnswerValue) → PrintsFollowedOn board named interrupted handlers lists image publics answer → AreNamedData board image.regions named
named_data None named interrupted handlers lists image publics answer is = is.are_data
named_data (Some board) named interrupted handlers lists image publics answer is = tt

pub returns : goal.returns
returns g c =
    let asked = c.args.arguments.now in
    let board = c.args.board.now.board in
    let quiet = c.in_ok-named.named.items in
    let handlers = c.in_ok-handlers.handlers.items in
    let image = c.in_ok-image.image in
    let read = c.in_ok-image.ensures.read in
    let first = g.C.Console.journal c.args.console.now in
    let new = g.C.Console.journal c.print_on_board-given.new.console in
    let same = c.in_ok-handlers.ensures.unchanged ∙ c.in_ok-named.ensures.unchanged in
    let Prints = PrintsFollowedOn board quiet asked.interrupted handlers asked.lists in
    let written : AreRangesOf (map (λ range. range.now) asked.quiet.items) quiet =
    subst (λ (values : List (Bor (List ℕ))). AreRangesOf (map (λ value. value.now) values) quiet) c.deref.ensures.value c.in_ok-named.ensures.ranges in
    let more : (files : List FileValue) (answer : AnswerValue) → AnswersProgram Prints (asks_names asked.files) files answer
    → AnswersFollowing asked board files answer =
    λ files answer is. record {
      named = quiet;
      addresses = handlers;
      written = written;
      handlers_written = subst (λ (values : List (Bor (List ℕ))). AreInterruptsIn board values) c.deref-2.ensures.value c.in_ok-handlers.ensures.written;
      handlers = sym (simp (c.deref-2.ensures.value) at c.in_ok-handlers.ensures.addresses);
      is = is;
    } in
    let none : (AreNamedData board image.regions quiet → ⊥) → (answer : AnswerValue) → AnswersFollowing asked board (program_files read new) answer → ⊥ =
    λ lacks answer is.
    let Says = PrintsFollowedOn board is.named asked.interrupted is.addresses asked.lists in
    lacks
    (subst (λ (areas : Areas). AreNamedData board areas quiet)
    (same_regions read new Says c.text_of_regions_is_read_as_itself.ensures.one_reading answer is.is)
    (subst (λ (ranges : List Range). AreNamedData board is.is.image.regions ranges)
    (one_list_of_ranges (map (λ range. range.now) asked.quiet.items) is.named quiet is.written written)
    (named_data board is.named asked.interrupted is.addresses asked.lists is.is.image is.is.publics answer is.is.answers))) in
    record {
      done = more_answered read new Prints (AnswersFollowing asked board) more first same c.print_on_board-given.result
          (simp (c.deref-3.ensures.value, c.deref-4.ensures.value) at c.print_on_board-given.ensures.done);
      fault = more_given_up_or_blamed read new Prints (AnswersFollowing asked board) more first same c.print_on_board-given.result none
          (simp (c.deref-3.ensures.value, c.deref-4.ensures.value) at c.print_on_board-given.ensures.fault);
    }

pub returns-in_err-named-clause-fault : goal.returns-in_err-named-clause-fault
returns-in_err-named-clause-fault g c =
    let asked = c.args.arguments.now in
    let old = g.C.Console.journal c.args.console.now in
    err_from c.from_residual.result
    (wrong_so_far (AnswersFollowing asked c.args.board.now.board) (program_paths asked.files) old old (g.C.Console.journal c.ranges_of.new.console) []
    (program_paths asked.files) refl refl
    (λ lacks others answer named is. lacks is.named
    (subst (λ (values : List (Bor (List ℕ))). AreRangesOf (map (λ value. value.now) values) is.named) (sym c.deref.ensures.value) is.written))
    c.in_err-named.ensures.fault)

pub returns-in_err-handlers-clause-fault : goal.returns-in_err-handlers-clause-fault
returns-in_err-handlers-clause-fault g c =
    let asked = c.args.arguments.now in
    let board = c.args.board.now.board in
    let old = g.C.Console.journal c.args.console.now in
    err_from c.from_residual-in_err-handlers.result
    (wrong_so_far (AnswersFollowing asked board) (program_paths asked.files) old old (g.C.Console.journal c.interrupts.new.console) []
    (program_paths asked.files) refl refl
    (λ lacks others answer named is. lacks
    (subst (λ (values : List (Bor (List ℕ))). AreInterruptsIn board values) (sym c.deref-2.ensures.value) is.handlers_written))
    (blames_same c.in_ok-named.ensures.unchanged c.in_err-handlers.ensures.fault))

pub returns-in_err-image-clause-fault : goal.returns-in_err-image-clause-fault
returns-in_err-image-clause-fault g c =
    let asked = c.args.arguments.now in
    let board = c.args.board.now.board in
    err_from c.from_residual-in_err-image.result
    (gives_up_unanswered (AnswersFollowing asked board)
    (λ files lacks others answer named is.
    no_program (PrintsFollowedOn board is.named asked.interrupted is.addresses asked.lists) files lacks others answer named is.is)
    (only_blames_same (c.in_ok-handlers.ensures.unchanged ∙ c.in_ok-named.ensures.unchanged) c.in_err-image.ensures.fault))
