use Rattle.plm80_console.specs.{AnswerLaws.err_from, AnswerLaws.gives_or_gives_up, AnswerLaws.gives_up_unanswered, AnswerLaws.only_blames_same}
use Rattle.plm80_console.specs.{AnswerLaws.wrong_files, AnswerLaws.wrong_so_far, Journal.OnlyBlames}
use Rattle.std.proofs.Common.{sym}
use Rattle.std.proofs.lemmas.Bool.{false≢true}
use Rattle.plm80_files.specs.Wrong.{SpellsNeither}
use Rattle.plm80_objects.specs.Wrong.{OfOne}
use Rattle.plm80_objects.proofs.FaultLemmas.{all_of_them, links_none, no_link_files}
use Rattle.plm80_objects.proofs.Names.{Bor, ℕ, List, [], ◌++◌, ◌∙◌, ap, refl, subst, Journal, and_read_files, AreLinkFilesRead, LinksFiles, LinksInto}
use Rattle.plm80_objects.proofs.ReadLemmas.{one_before, texts}
use Rattle.plm80_objects.proofs.link.link_files.Goals as goal

pub returns-in-Ok : goal.returns-in-Ok
returns-in-Ok g c =
    let asked = c.args.arguments.now in
    let files = c.in_ok-files.files in
    let between = g.C.Console.journal c.read_files.new.console in
    let read = subst (λ (ps : List (Bor (List ℕ))). AreLinkFilesRead (texts ps) (g.C.Console.journal c.module_name.new.console) between files)
    c.deref.ensures.value c.in_ok-files.ensures.read in
    let both = gives_or_gives_up (LinksFiles asked) (texts asked.files.items) (g.C.Console.journal c.args.console.now)
    (g.C.Console.journal c.link_read.new.console) (g.C.Console.journal c.give-given.new.self) read.files read.paths_are
    (c.in-Ok.ensures.unchanged ∙ read.journal ∙ ap (λ (j : Journal). and_read_files j read.files) c.in_ok-name.ensures.unchanged)
    c.in-Ok.answer c.give-given.result
    (record {
      named = c.in_ok-name.ensures.taken;
      files = files;
      are = read.have;
      links = subst (λ (n : List ℕ). LinksInto asked.out.now asked.lines n files c.in-Ok.answer) c.in_ok-name.ensures.name c.in-Ok.ensures.links;
    })
    c.give-given.ensures.given c.give-given.ensures.fault in
    record { done = both.0; fault = both.1 }

pub returns-clause-fault : goal.returns-clause-fault
returns-clause-fault g c =
    let asked = c.args.arguments.now in
    let read = subst (λ (ps : List (Bor (List ℕ))). AreLinkFilesRead (texts ps) (g.C.Console.journal c.module_name.new.console)
    (g.C.Console.journal c.read_files.new.console) c.in_ok-files.files) c.deref.ensures.value c.in_ok-files.ensures.read in
    wrong_files (LinksFiles asked) (texts asked.files.items) (g.C.Console.journal c.args.console.now) (g.C.Console.journal c.read_files.new.console)
    (g.C.Console.journal c.link_read.new.console) read.files read.paths_are
    (read.journal ∙ ap (λ (j : Journal). and_read_files j read.files) c.in_ok-name.ensures.unchanged)
    (λ lacks others answer named is.
    links_none c.one_file_reading.ensures.file c.one_library.ensures.library asked read.files (read.files ++ others) c.in_ok-files.files answer read.have
    (all_of_them read.files others (texts asked.files.items) read.paths_are named) is lacks)
    c.in-Err.ensures.fault

pub returns-in_err-files-clause-fault : goal.returns-in_err-files-clause-fault
returns-in_err-files-clause-fault g c =
    let new = g.C.Console.journal c.read_files.new.console in
    err_from c.from_residual-in_err-files.result
    (gives_up_unanswered (LinksFiles c.args.arguments.now)
    (λ files lacks others answer named is. no_link_files (files ++ others) is.files is.are (one_before SpellsNeither files others lacks))
    (only_blames_same c.in_ok-name.ensures.unchanged
    (subst (λ (ps : List (Bor (List ℕ))). OnlyBlames (OfOne SpellsNeither) (texts ps) (g.C.Console.journal c.module_name.new.console) new)
    c.deref.ensures.value c.in_err-files.ensures.fault)))

pub returns-in_err-name-clause-fault : goal.returns-in_err-name-clause-fault
returns-in_err-name-clause-fault g c =
    let paths = texts c.args.arguments.now.files.items in
    err_from c.from_residual.result
    (wrong_so_far (LinksFiles c.args.arguments.now) paths (g.C.Console.journal c.args.console.now) (g.C.Console.journal c.args.console.now)
    (g.C.Console.journal c.module_name.new.console) [] paths refl refl (λ none others answer named is. false≢true (sym none ∙ is.named))
    c.in_err-name.ensures.failed)
