use Rattle.std.specs.Prelude.{None}
use Rattle.place80.specs.{PlaceFault.locate_fault, declared.options.Options.Options, declared.place_fault.PlaceFault.TheVariants.Memory}
use Rattle.plm80_console.specs.AnswerLaws.{err_from, gives_or_gives_up, gives_up_unanswered, only_blames_same, wrong_arguments, wrong_files}
use Rattle.plm80_objects.proofs.FaultLemmas.{is_there, no_program, of_its_program, one_numbers}
use Rattle.plm80_objects.proofs.Names.{◌≡◌, [], ◌∷◌, refl, ◌∙◌, ap, Journal, and_read, file_value, MapsFile, PrintsMap, subst}
use Rattle.plm80_objects.proofs.ReadLemmas.{of_program}
use Rattle.plm80_objects.proofs.map.map_file.Goals as goal

pub returns-in-Ok : goal.returns-in-Ok
returns-in-Ok g c =
    let asked = c.args.arguments in
    let read = c.in_ok-modules.ensures.read in
    let file = file_value asked.object.now read.0 in
    let options = c.in_ok-options.options in
    let answers : MapsFile asked (file ∷ []) c.in-Ok.answer = record {
      options = options;
      are_options = c.in_ok-options.ensures.numbers;
      answers = of_program (PrintsMap options) file c.in_ok-modules.modules.items c.index-program.result.now c.in-Ok.answer read.2 c.in_ok-modules.ensures.one
          c.index-program.ensures (record { none = c.in-Ok.ensures.none; is_map = c.in-Ok.ensures.map; answer_is = c.in-Ok.ensures.printed });
    } in
    let journal = read.1 ∙ ap (λ (j : Journal). and_read j asked.object.now read.0) c.in_ok-options.ensures.unchanged in
    let both = gives_or_gives_up (MapsFile asked) (asked.object.now ∷ []) (g.C.Console.journal c.args.console.now) (g.C.Console.journal c.read_program.new.console) (g.C.Console.journal c.give.new.self) (file ∷ []) refl
    journal c.in-Ok.answer c.give.result answers c.give.ensures.given c.give.ensures.fault in
    record { done = both.0; fault = both.1 }

pub returns-clause-fault : goal.returns-clause-fault
returns-clause-fault g c =
    let asked = c.args.arguments in
    let read = c.in_ok-modules.ensures.read in
    let file = file_value asked.object.now read.0 in
    let options = c.in_ok-options.options in
    wrong_files (MapsFile asked) (file.path ∷ []) (g.C.Console.journal c.args.console.now) (g.C.Console.journal c.read_program.new.console)
    (g.C.Console.journal c.report_place_fault-reported.new.console) (file ∷ []) refl
    (read.1 ∙ ap (λ (j : Journal). and_read j file.path file.bytes) c.in_ok-options.ensures.unchanged)
    (λ other others answer named is.
    let same = one_numbers asked.options is.options options is.are_options c.in_ok-options.ensures.numbers in
    let prints = of_its_program c.one_file_reading.ensures.file (PrintsMap is.options) file others c.in_ok-modules.modules.items c.index-program.result.now answer
    read.2 c.in_ok-modules.ensures.one c.index-program.ensures is.answers in
    is_there (locate_fault options c.index-program.result.now) Memory c.in-Err.fault c.in-Err.ensures.fault other
    (subst (λ (o : Options). locate_fault o c.index-program.result.now ≡ None) same prints.none))
    c.report_place_fault-reported.ensures

pub returns-in_err-modules-clause-fault : goal.returns-in_err-modules-clause-fault
returns-in_err-modules-clause-fault g c =
    err_from c.from_residual-in_err-modules.result
    (gives_up_unanswered (MapsFile c.args.arguments)
    (λ files lacks others answer named is. no_program (PrintsMap is.options) files others answer is.answers lacks)
    (only_blames_same c.in_ok-options.ensures.unchanged c.in_err-modules.ensures.fault))

pub returns-in_err-options-clause-fault : goal.returns-in_err-options-clause-fault
returns-in_err-options-clause-fault g c =
    err_from c.from_residual.result
    (wrong_arguments (MapsFile c.args.arguments) (λ files answer is. c.in_err-options.ensures.wrong is.options is.are_options) c.in_err-options.ensures.failed)
