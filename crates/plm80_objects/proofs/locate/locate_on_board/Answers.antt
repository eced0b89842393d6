use Rattle.place80.specs.declared.options.Options.{Options}
use Rattle.plm80_console.specs.AnswerLaws.{err_from, gives_or_gives_up, gives_up_unanswered, only_blames_same, wrong_arguments, wrong_files, wrong_so_far}
use Rattle.plm80_objects.proofs.FaultLemmas.{no_program, of_its_program, one_numbers}
use Rattle.plm80_objects.proofs.Names.{Bor, ℕ, List, [], ◌∷◌, refl, ◌∙◌, ap, subst, sym, Range, Journal, and_read, file_value}
use Rattle.plm80_objects.proofs.Names.{LocatesFile, WritesLocated}
use Rattle.plm80_objects.proofs.ReadLemmas.{of_program, texts}
use Rattle.board80.specs.declared.line.Kind.TheVariants.{Ram, Rom}
use Rattle.plm80_boards.specs.{Boards.AreRangesIn, RangeLaws.one_list_in}
use Rattle.plm80_objects.proofs.locate.locate_on_board.Goals as goal

pub returns : goal.returns
returns g c =
    let asked = c.args.arguments.now in
    let board = c.args.given_board.now.board in
    let read = c.in_ok-modules.ensures.read in
    let file = file_value asked.object.now read.0 in
    let options = c.in_ok-options.options in
    let rom = c.in_ok-rom.rom.items in
    let ram = c.in_ok-ram.ram.items in
    let program = c.index-program.result.now in
    let answer = c.in_ok-answer.answer in
    let located = subst (λ (l : List Range). WritesLocated asked options rom l program answer) c.deref-4.ensures.value
    (subst (λ (l : List Range). WritesLocated asked options l c.deref-4.result.now program answer) c.deref-3.ensures.value
    c.in_ok-answer.ensures.located) in
    let both = gives_or_gives_up (LocatesFile asked board) (asked.object.now ∷ []) (g.C.Console.journal c.args.console.now)
    (g.C.Console.journal c.locate_program.new.console) (g.C.Console.journal c.give-given.new.self) (file ∷ []) refl
    (c.in_ok-answer.ensures.unchanged ∙ read.1 ∙ ap (λ (j : Journal). and_read j asked.object.now read.0)
    (c.in_ok-ram.ensures.unchanged ∙ c.in_ok-rom.ensures.unchanged ∙ c.in_ok-options.ensures.unchanged))
    answer c.give-given.result
    (record {
      options = options;
      are_options = c.in_ok-options.ensures.numbers;
      rom = rom;
      is_rom = subst (λ (l : List (Bor (List ℕ))). AreRangesIn Rom board (texts l) rom) c.deref.ensures.value c.in_ok-rom.ensures.ranges;
      ram = ram;
      is_ram = subst (λ (l : List (Bor (List ℕ))). AreRangesIn Ram board (texts l) ram) c.deref-2.ensures.value c.in_ok-ram.ensures.ranges;
      answers = of_program (WritesLocated asked options rom ram) file c.in_ok-modules.modules.items program answer read.2
          c.in_ok-modules.ensures.one c.index-program.ensures located;
    })
    c.give-given.ensures.given c.give-given.ensures.fault in
    record { done = both.0; fault = both.1 }

pub returns-in_err-answer-clause-fault : goal.returns-in_err-answer-clause-fault
returns-in_err-answer-clause-fault g c =
    let asked = c.args.arguments.now in
    let board = c.args.given_board.now.board in
    let read = c.in_ok-modules.ensures.read in
    let file = file_value asked.object.now read.0 in
    let program = c.index-program.result.now in
    err_from c.from_residual-in_err-answer.result
    (wrong_files (LocatesFile asked board) (file.path ∷ []) (g.C.Console.journal c.args.console.now) (g.C.Console.journal c.read_program.new.console)
    (g.C.Console.journal c.locate_program.new.console) (file ∷ []) refl
    (read.1 ∙ ap (λ (j : Journal). and_read j file.path file.bytes)
    (c.in_ok-ram.ensures.unchanged ∙ c.in_ok-rom.ensures.unchanged ∙ c.in_ok-options.ensures.unchanged))
    (λ lacks others answer named is.
    let options = one_numbers asked.options is.options c.in_ok-options.options is.are_options c.in_ok-options.ensures.numbers in
    let rom = one_list_in Rom board (texts asked.rom.items) is.rom c.in_ok-rom.rom.items is.is_rom
    (subst (λ (l : List (Bor (List ℕ))). AreRangesIn Rom board (texts l) c.in_ok-rom.rom.items) c.deref.ensures.value c.in_ok-rom.ensures.ranges) in
    let ram = one_list_in Ram board (texts asked.ram.items) is.ram c.in_ok-ram.ram.items is.is_ram
    (subst (λ (l : List (Bor (List ℕ))). AreRangesIn Ram board (texts l) c.in_ok-ram.ram.items) c.deref-2.ensures.value c.in_ok-ram.ensures.ranges) in
    let writes = of_its_program c.one_file_reading.ensures.file (WritesLocated asked is.options is.rom is.ram) file others c.in_ok-modules.modules.items program answer
    read.2 c.in_ok-modules.ensures.one c.index-program.ensures is.answers in
    lacks answer
    (subst (λ (l : List Range). WritesLocated asked c.in_ok-options.options c.deref-3.result.now l program answer) (ram ∙ sym c.deref-4.ensures.value)
    (subst (λ (l : List Range). WritesLocated asked c.in_ok-options.options l is.ram program answer) (rom ∙ sym c.deref-3.ensures.value)
    (subst (λ (o : Options). WritesLocated asked o is.rom is.ram program answer) options writes))))
    c.in_err-answer.ensures.fault)

pub returns-in_err-modules-clause-fault : goal.returns-in_err-modules-clause-fault
returns-in_err-modules-clause-fault g c =
    let asked = c.args.arguments.now in
    err_from c.from_residual-in_err-modules.result
    (gives_up_unanswered (LocatesFile asked c.args.given_board.now.board)
    (λ files lacks others answer named is. no_program (WritesLocated asked is.options is.rom is.ram) files others answer is.answers lacks)
    (only_blames_same (c.in_ok-ram.ensures.unchanged ∙ c.in_ok-rom.ensures.unchanged ∙ c.in_ok-options.ensures.unchanged) c.in_err-modules.ensures.fault))

pub returns-in_err-options-clause-fault : goal.returns-in_err-options-clause-fault
returns-in_err-options-clause-fault g c =
    err_from c.from_residual.result
    (wrong_arguments (LocatesFile c.args.arguments.now c.args.given_board.now.board) (λ files answer is. c.in_err-options.ensures.wrong is.options is.are_options) c.in_err-options.ensures.failed)

pub returns-in_err-rom-clause-fault : goal.returns-in_err-rom-clause-fault
returns-in_err-rom-clause-fault g c =
    let asked = c.args.arguments.now in
    let board = c.args.given_board.now.board in
    let paths = asked.object.now ∷ [] in
    err_from c.from_residual-in_err-rom.result
    (wrong_so_far (LocatesFile asked board) paths (g.C.Console.journal c.args.console.now) (g.C.Console.journal c.numbers.new.console)
    (g.C.Console.journal c.rom.new.console) [] paths refl c.in_ok-options.ensures.unchanged
    (λ lacks others answer named is.
    lacks is.rom (subst (λ (l : List (Bor (List ℕ))). AreRangesIn Rom board (texts l) is.rom) (sym c.deref.ensures.value) is.is_rom))
    c.in_err-rom.ensures.fault)

pub returns-in_err-ram-clause-fault : goal.returns-in_err-ram-clause-fault
returns-in_err-ram-clause-fault g c =
    let asked = c.args.arguments.now in
    let board = c.args.given_board.now.board in
    let paths = asked.object.now ∷ [] in
    err_from c.from_residual-in_err-ram.result
    (wrong_so_far (LocatesFile asked board) paths (g.C.Console.journal c.args.console.now) (g.C.Console.journal c.rom.new.console)
    (g.C.Console.journal c.ram.new.console) [] paths refl (c.in_ok-rom.ensures.unchanged ∙ c.in_ok-options.ensures.unchanged)
    (λ lacks others answer named is.
    lacks is.ram (subst (λ (l : List (Bor (List ℕ))). AreRangesIn Ram board (texts l) is.ram) (sym c.deref-2.ensures.value) is.is_ram))
    c.in_err-ram.ensures.fault)
