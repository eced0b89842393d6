use Rattle.plm80_regions.proofs.Names.{[], ◌∷◌, ◌≡◌, ℕ, List, All, refl, sym, ◌∙◌, ap, Journal, and_read, file_value, AnswersAdvice, DeclaredCase, Option, Range}
use Rattle.image80.specs.Case.{AreByAddress, IsCase}
use Rattle.board80.specs.declared.line.Line.{Line}
use Rattle.plm80_regions.specs.Suggest.{AreOptions}
use Rattle.plm80_regions.specs.declared.suggest.SuggestArguments.{SuggestArguments}
use Rattle.std.specs.Prelude.{slice_index_or}
use Rattle.image80_file.specs.ImageFile.{AbsoluteProgram, SpellsImage, without_regions}
use Rattle.plm80_console.specs.{Answer.AnswerValue, Journal.FileValue}
use Rattle.plm80_console.specs.AnswerLaws.{err_from, gives_or_gives_up, gives_up_unanswered, only_blames_same, wrong_so_far}
use Rattle.plm80_regions.specs.Suggest.{IsUnfit}
use Rattle.plm80_regions.proofs.OptionLemmas.{fits_by, fits_of, wrong_one}
use Rattle.plm80_files.specs.WrongLaws.{no_image}
use Rattle.plm80_regions.proofs.Names.{subst}
use Rattle.plm80_regions.proofs.suggest.advise_on_board.Goals as goal

pub advise-requires-clause-by_address : goal.advise-requires-clause-by_address
advise-requires-clause-by_address g c =
    subst AreByAddress (sym c.known-known.ensures.cases) c.in_ok-options.ensures.options.are_cases.by_address

pub advise-requires-clause-each : goal.advise-requires-clause-each
advise-requires-clause-each g c = subst (All IsCase) (sym c.known-known.ensures.cases) c.in_ok-options.ensures.options.are_cases.each

-- what the options say is what is known
known_options : (arguments : SuggestArguments) (board : Option (List Line)) (rom rom' ram ram' : List Range) (entries entries' : List ℕ) (cases cases' : List DeclaredCase)
    → rom' ≡ rom → ram' ≡ ram → entries' ≡ entries → cases' ≡ cases → AreOptions arguments board rom ram entries cases → AreOptions arguments board rom' ram' entries' cases'
known_options arguments board rom rom' ram ram' entries entries' cases cases' r m e k is =
    subst (λ x. AreOptions arguments board x ram' entries' cases') (sym r)
    (subst (λ x. AreOptions arguments board rom x entries' cases') (sym m)
    (subst (λ x. AreOptions arguments board rom ram x cases') (sym e)
    (subst (λ x. AreOptions arguments board rom ram entries x) (sym k) is)))

pub returns-in-Ok : goal.returns-in-Ok
returns-in-Ok g c =
    let asked = c.args.arguments.now in
    let board = c.args.given.now.board in
    let bytes = c.in_ok-image.ensures.image.0 in
    let file = file_value asked.image.now bytes in
    let image = c.in_ok-image.image in
    let options = c.in_ok-options.options in
    let known = c.known-known.result in
    let printed = c.in-Ok.printed in
    let answers : AnswersAdvice asked board (file ∷ []) printed.answer = record {
      file = file;
      files_are = refl;
      image = image;
      contents = c.in_ok-image.ensures.image.1;
      known = known;
      options = known_options asked board options.rom.items known.rom.now options.ram.items known.ram.now options.entries.items known.entries.now
          options.cases.items known.cases.now c.known-known.ensures.rom c.known-known.ensures.ram c.known-known.ensures.entries
          c.known-known.ensures.cases c.in_ok-options.ensures.options;
      advice = printed.advice;
      advises = c.in-Ok.ensures.advised;
    } in
    let both = gives_or_gives_up (AnswersAdvice asked board) (asked.image.now ∷ []) (g.C.Console.journal c.args.console.now) (g.C.Console.journal c.bare_image.new.console)
    (g.C.Console.journal c.print_advice.new.console) (file ∷ []) refl
    (c.in_ok-image.ensures.image.2
    ∙ ap (λ (j : Journal). and_read j asked.image.now bytes) c.in_ok-options.ensures.unchanged)
    printed.answer c.print_advice.result answers c.print_advice.ensures.given c.print_advice.ensures.fault in
    record { done = both.0; fault = both.1 }

pub returns-clause-fault : goal.returns-clause-fault
returns-clause-fault g c =
    let asked = c.args.arguments.now in
    let board = c.args.given.now.board in
    let bytes = c.in_ok-image.ensures.image.0 in
    let file = file_value asked.image.now bytes in
    let image = c.in_ok-image.image in
    let options = c.in_ok-options.options in
    let known = c.known-known.result in
    let own : AreOptions asked board known.rom.now known.ram.now known.entries.now known.cases.now =
    known_options asked board options.rom.items known.rom.now options.ram.items known.ram.now options.entries.items known.entries.now
    options.cases.items known.cases.now c.known-known.ensures.rom c.known-known.ensures.ram c.known-known.ensures.entries
    c.known-known.ensures.cases c.in_ok-options.ensures.options in
    let none : IsUnfit c.in-Err.fault → (answer : AnswerValue) → AnswersAdvice asked board (file ∷ []) answer → ⊥ =
    λ unfit answer is.
    let same : is.file ≡ file = sym (ap (λ (fs : List FileValue). slice_index_or fs 0 is.file) is.files_are) in
    let read : SpellsImage bytes (without_regions is.image) = subst (λ (f : FileValue). SpellsImage f.bytes (without_regions is.image)) same is.contents in
    let chunks = ap (λ (p : AbsoluteProgram). p.chunks)
    (c.one_image_reading.ensures.image bytes (without_regions is.image) (without_regions image) read c.in_ok-image.ensures.image.1) in
    c.in-Err.ensures.unfit unfit
    (fits_of is.image image chunks known.rom.now known.entries.now known.cases.now
    (fits_by is.image asked board known.rom.now is.known.rom.now known.ram.now is.known.ram.now known.entries.now is.known.entries.now known.cases.now
    is.known.cases.now own is.options is.advises.fits)) in
    wrong_one (AnswersAdvice asked board) asked.image.now (g.C.Console.journal c.args.console.now) (g.C.Console.journal c.bare_image.new.console)
    (g.C.Console.journal c.report_advice_fault.new.console) file refl
    (c.in_ok-image.ensures.image.2 ∙ ap (λ (j : Journal). and_read j asked.image.now bytes) c.in_ok-options.ensures.unchanged)
    none c.report_advice_fault.ensures

pub returns-in_err-options-clause-fault : goal.returns-in_err-options-clause-fault
returns-in_err-options-clause-fault g c =
    let asked = c.args.arguments.now in
    let old = g.C.Console.journal c.args.console.now in
    err_from c.from_residual.result
    (wrong_so_far (AnswersAdvice asked c.args.given.now.board) (asked.image.now ∷ []) old old (g.C.Console.journal c.options_of.new.console) []
    (asked.image.now ∷ []) refl refl
    (λ lacks others answer named is. lacks is.known.rom.now is.known.ram.now is.known.entries.now is.known.cases.now is.options)
    c.in_err-options.ensures.fault)

pub returns-in_err-image-clause-fault : goal.returns-in_err-image-clause-fault
returns-in_err-image-clause-fault g c =
    err_from c.from_residual-in_err-image.result
    (gives_up_unanswered (AnswersAdvice c.args.arguments.now c.args.given.now.board)
    (λ files lacks others answer named is. no_image files others [] is.file is.files_are lacks (without_regions is.image) is.contents)
    (only_blames_same c.in_ok-options.ensures.unchanged c.in_err-image.ensures.fault))
