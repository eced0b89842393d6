use Rattle.plm80_console.specs.AnswerLaws.{err_from, gives_or_gives_up, wrong_arguments, wrong_files}
use Rattle.plm80_console.specs.{Answer.AnswerValue, Journal.FileValue, Journal.and_blamed}
use Rattle.plm80_objects.specs.{Arguments.WritesByte, Arguments.WritesWord, Compare.ComparesBytes, Compare.ComparesNone, declared.compare.CompareArguments.CompareArguments}
use Rattle.plm80_objects.proofs.Names.{[], ◌∷◌, refl, ◌∙◌, ap, Journal, and_read, file_value, ComparesFiles}
use Rattle.plm80_objects.proofs.Names.{and_reported}
use Rattle.plm80_console.specs.{Answer.GivesUp.before, Journal.OnlyReports.read as read_it}
use Rattle.plm80_objects.proofs.Names.{◌≡◌, ℕ, List, ◌++◌, subst, sym}
use Rattle.std.specs.Prelude.{slice_index_or}
use Rattle.plm80_objects.proofs.compare.print_differences.Goals as goal

-- the bytes and the numbers are those of every answer
compares_none : (asked : CompareArguments) (file dump : FileValue) (others : List FileValue) (answer : AnswerValue) (first fill : ℕ) → WritesWord asked.first first
    → WritesByte asked.fill fill → ComparesFiles asked ((file ∷ dump ∷ []) ++ others) answer
    → ComparesNone asked.names file.bytes first dump.bytes fill → ⊥
compares_none asked file dump others answer first fill is_first is_fill is lacks =
    let same_file : is.file ≡ file = sym (ap (λ (fs : List FileValue). slice_index_or fs 0 file) is.files_are) in
    let same_dump : is.dump ≡ dump = sym (ap (λ (fs : List FileValue). slice_index_or fs 1 file) is.files_are) in
    lacks answer
    (subst (λ (f : FileValue). ComparesBytes asked.names f.bytes first dump.bytes fill answer) same_file
    (subst (λ (d : FileValue). ComparesBytes asked.names is.file.bytes first d.bytes fill answer) same_dump
    (subst (λ (n : ℕ). ComparesBytes asked.names is.file.bytes first is.dump.bytes n answer) (is.fill_is.1 ∙ sym is_fill.1)
    (subst (λ (n : ℕ). ComparesBytes asked.names is.file.bytes n is.dump.bytes is.fill answer) (is.first_is.1 ∙ sym is_first.1) is.answer_is))))

pub returns : goal.returns
returns g c =
    let asked = c.args.arguments in
    let file = file_value asked.image.now c.in_ok-file.file.bytes.items in
    let dump = file_value asked.dump.now c.in_ok-dump.dump.bytes.items in
    let both = gives_or_gives_up (ComparesFiles asked) (file.path ∷ dump.path ∷ []) (g.C.Console.journal c.args.console.now) (g.C.Console.journal c.compare_read.new.console)
    (g.C.Console.journal c.give.new.self) (file ∷ dump ∷ []) refl
    (c.in_ok-answer.ensures.unchanged ∙ c.in_ok-dump.ensures.read ∙ ap (λ (j : Journal). and_read j dump.path dump.bytes) (c.in_ok-file.ensures.read
    ∙ ap (λ (j : Journal). and_read j file.path file.bytes) (c.in_ok-fill.ensures.unchanged ∙ c.in_ok-first.ensures.unchanged)))
    c.in_ok-answer.answer c.give.result
    (record {
      file = file;
      dump = dump;
      files_are = refl;
      first = c.in_ok-first.first;
      first_is = c.in_ok-first.ensures.word;
      fill = c.in_ok-fill.fill;
      fill_is = c.in_ok-fill.ensures.byte;
      answer_is = c.in_ok-answer.ensures.compared;
    })
    c.give.ensures.given c.give.ensures.fault in
    record { done = both.0; fault = both.1 }

pub returns-in_err-dump-clause-fault : goal.returns-in_err-dump-clause-fault
returns-in_err-dump-clause-fault g c =
    let asked = c.args.arguments in
    let file = file_value asked.image.now c.in_ok-file.file.bytes.items in
    err_from c.from_residual-in_err-dump.result
    (before
    (read_it (file ∷ []) (asked.dump.now ∷ []) refl
    (c.in_err-dump.ensures.fault ∙ ap and_reported (c.in_ok-file.ensures.read
    ∙ ap (λ (j : Journal). and_read j file.path file.bytes) (c.in_ok-fill.ensures.unchanged ∙ c.in_ok-first.ensures.unchanged)))))

pub returns-in_err-answer-clause-fault : goal.returns-in_err-answer-clause-fault
returns-in_err-answer-clause-fault g c =
    let asked = c.args.arguments in
    let file = file_value asked.image.now c.in_ok-file.file.bytes.items in
    let dump = file_value asked.dump.now c.in_ok-dump.dump.bytes.items in
    err_from c.from_residual-in_err-answer.result
    (wrong_files (ComparesFiles asked) (file.path ∷ dump.path ∷ []) (g.C.Console.journal c.args.console.now) (g.C.Console.journal c.read_file-2.new.self)
    (g.C.Console.journal c.compare_read.new.console) (file ∷ dump ∷ []) refl
    (c.in_ok-dump.ensures.read ∙ ap (λ (j : Journal). and_read j dump.path dump.bytes) (c.in_ok-file.ensures.read
    ∙ ap (λ (j : Journal). and_read j file.path file.bytes) (c.in_ok-fill.ensures.unchanged ∙ c.in_ok-first.ensures.unchanged)))
    (λ lacks others answer named is.
    compares_none asked file dump others answer c.in_ok-first.first c.in_ok-fill.fill c.in_ok-first.ensures.word c.in_ok-fill.ensures.byte is lacks)
    c.in_err-answer.ensures.fault)

pub returns-in_err-first-clause-fault : goal.returns-in_err-first-clause-fault
returns-in_err-first-clause-fault g c =
    err_from c.from_residual.result
    (wrong_arguments (ComparesFiles c.args.arguments) (λ files answer is. c.in_err-first.ensures.fault is.first_is.0) c.in_err-first.ensures.failed)

pub returns-in_err-fill-clause-fault : goal.returns-in_err-fill-clause-fault
returns-in_err-fill-clause-fault g c =
    err_from c.from_residual-in_err-fill.result
    (wrong_arguments (ComparesFiles c.args.arguments) (λ files answer is. c.in_err-fill.ensures.fault is.fill_is.0)
    (c.in_err-fill.ensures.failed ∙ ap and_blamed c.in_ok-first.ensures.unchanged))
