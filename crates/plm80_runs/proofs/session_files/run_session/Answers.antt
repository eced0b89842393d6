use Rattle.plm80_runs.proofs.Names.{◌≡◌, List, ap, refl, subst, sym, run_paths, AnswerValue, AnswersSession, AnswersTexts, FileValue, Texts, run_files, texts_of}
use Rattle.std.specs.Prelude.{slice_index_or}
use Rattle.plm80_console.specs.AnswerLaws.{err_from, part_given}
use Rattle.plm80_console.specs.Answer.GivesUp.{before}
use Rattle.plm80_names.specs.BlamingLaws.{part_given_up_or_blamed}
use Rattle.plm80_runs.proofs.session_files.run_session.Goals as goal

pub returns : goal.returns
returns g c =
    let paths = c.args.files in
    let texts = c.in_ok-texts.texts in
    let limits = c.args.limits in
    let files = run_files paths texts in
    let old = g.C.Console.journal c.args.console.now in
    let between = g.C.Console.journal c.texts.new.console in
    let new = g.C.Console.journal c.print_session-given.new.console in
    let whole : (answer : AnswerValue) → AnswersTexts limits (texts_of texts) answer → AnswersSession limits files answer =
    λ answer answers. record {
      image = record { path = paths.program.image.now; bytes = texts.program.image.bytes.items };
      regions = record { path = paths.program.regions.now; bytes = texts.program.regions.bytes.items };
      inputs = record { path = paths.inputs.now; bytes = texts.inputs.bytes.items };
      files_are = refl;
      answers = answers;
    } in
    let none : ((answer : AnswerValue) → AnswersTexts limits (texts_of texts) answer → ⊥) → (answer : AnswerValue) → AnswersSession limits files answer → ⊥ =
    λ lacks answer is.
    let first = ap (λ (fs : List FileValue). slice_index_or fs 0 is.image) is.files_are in
    let second = ap (λ (fs : List FileValue). slice_index_or fs 1 is.image) is.files_are in
    let third = ap (λ (fs : List FileValue). slice_index_or fs 2 is.image) is.files_are in
    let same : texts_of texts ≡ record { image = is.image.bytes; regions = is.regions.bytes; inputs = is.inputs.bytes } =
    λ k. record { image = (first k).bytes; regions = (second k).bytes; inputs = (third k).bytes } in
    lacks answer (subst (λ (t : Texts). AnswersTexts limits t answer) (sym same) is.answers) in
    record {
      done = part_given (AnswersSession limits) (run_paths paths) old between new files refl c.in_ok-texts.ensures.read
          (AnswersTexts limits (texts_of texts)) whole c.print_session-given.result c.print_session-given.ensures.done;
      fault = part_given_up_or_blamed (AnswersSession limits) (run_paths paths) old between new files refl c.in_ok-texts.ensures.read
          (AnswersTexts limits (texts_of texts)) whole none c.print_session-given.result c.print_session-given.ensures.fault;
    }

pub returns-in_err-texts-clause-fault : goal.returns-in_err-texts-clause-fault
returns-in_err-texts-clause-fault g c =
    err_from c.from_residual.result (before c.in_err-texts.ensures.fault)
