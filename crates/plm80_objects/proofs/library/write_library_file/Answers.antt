use Rattle.plm80_console.specs.AnswerLaws.{err_from}
use Rattle.std.specs.Prelude.{true}
use Rattle.std.proofs.Common.{rules}
use Rattle.std.proofs.lemmas.Bool.{false≢true}
use Rattle.omf_library.specs.Writing.{is_too_large}
use Rattle.plm80_console.specs.Journal.{OnlyBlames, OnlyBlames.other, OnlyBlames.wrong, and_blamed}
use Rattle.plm80_files.specs.Wrong.{SpellsNoModules}
use Rattle.plm80_objects.proofs.FaultLemmas.{all_of_them, no_modules, one_list_of_modules}
use Rattle.plm80_objects.proofs.Names.{◌≡◌, Bor, ℕ, List, [], ◌++◌, ◌∙◌, ap, append-nil, subst, sym, AreAllRead, Journal, ModuleValue, paths_of}
use Rattle.plm80_objects.proofs.ReadLemmas.{all_read, one_before, texts}
use Rattle.plm80_objects.specs.Modules.{GivesUpLibrary, GivesUpLibrary.before, GivesUpLibrary.unanswered, GivesUpLibrary.within, library_paths}
use Rattle.plm80_objects.specs.{Wrong.OfOne, declared.library.LibraryArguments.LibraryArguments}
use Rattle.plm80_objects.proofs.library.write_library_file.Goals as goal

-- a file that spells no modules
no_library : {old new : Journal} (asked : LibraryArguments) → OnlyBlames (OfOne SpellsNoModules) (library_paths asked) old new → GivesUpLibrary asked old new
no_library asked (other only) = before only
no_library asked (wrong files rest first lacks is) =
    unanswered files rest first (λ others modules named are fits. no_modules (files ++ others) modules are (one_before SpellsNoModules files others lacks)) is

-- the paths of the arguments
texts_read : {paths args : List (Bor (List ℕ))} {old new : Journal} {modules : List ModuleValue} → paths ≡ args → AreAllRead (texts paths) old new modules
    → AreAllRead (texts args) old new modules
texts_read {old = old} {new = new} {modules = modules} same read =
    subst (λ (ps : List (Bor (List ℕ))). AreAllRead (texts ps) old new modules) same read

pub returns-in_err-replace_keeping_objects-in-Ok-clause-fault : goal.returns-in_err-replace_keeping_objects-in-Ok-clause-fault
returns-in_err-replace_keeping_objects-in-Ok-clause-fault g c =
    let between = g.C.Console.journal c.modules_of.new.console in
    let modules = c.in_ok-modules.modules.items in
    err_from c.from_residual-in_err-replace_keeping_objects-in-Ok.result
    (within between modules
    (subst (λ (ps : List (Bor (List ℕ))). AreAllRead (texts ps) (g.C.Console.journal c.args.console.now) between modules) c.deref.ensures.value
    c.in_ok-modules.ensures.read)
    c.in_err-replace_keeping_objects-in-Ok.ensures.fault)

pub returns-in-Err-Memory-clause-fault : goal.returns-in-Err-Memory-clause-fault
returns-in-Err-Memory-clause-fault g c =
    before (all_read (texts_read c.deref.ensures.value c.in_ok-modules.ensures.read) c.report_memory.ensures)

pub returns-clause-fault : goal.returns-clause-fault
returns-clause-fault g c =
    let asked = c.args.arguments.now in
    let read = texts_read c.deref.ensures.value c.in_ok-modules.ensures.read in
    let too_large = subst (λ (ms : List ModuleValue). is_too_large ms ≡ true) c.deref-2.ensures.value (c.in-Err-TooLarge.ensures.too_large (search rules)) in
    unanswered read.files [] (sym (append-nil (paths_of read.files) ∙ read.paths_are))
    (λ others modules named are fits.
    let same = one_list_of_modules c.one_file_reading.ensures.file (read.files ++ others) read.files modules c.in_ok-modules.modules.items are read.have
    (sym (all_of_them read.files others (texts asked.files.items) read.paths_are named)) in
    false≢true (sym fits ∙ ap is_too_large same ∙ too_large))
    (c.blame-reported.ensures ∙ ap and_blamed read.journal)

pub returns-in_err-modules-clause-fault : goal.returns-in_err-modules-clause-fault
returns-in_err-modules-clause-fault g c =
    err_from c.from_residual.result
    (no_library c.args.arguments.now
    (subst (λ (ps : List (Bor (List ℕ))). OnlyBlames (OfOne SpellsNoModules) (texts ps) (g.C.Console.journal c.args.console.now)
    (g.C.Console.journal c.modules_of.new.console)) c.deref.ensures.value c.in_err-modules.ensures.fault))
