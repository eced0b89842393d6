use Rattle.std.proofs.lemmas.Bool.{false≢true}
use Rattle.plm80_console.specs.AnswerLaws.{both_if_made, err_from, gives_up_unanswered, only_blames_same, wrong_arguments, wrong_so_far}
use Rattle.plm80_console.specs.Journal.{OnlyBlames}
use Rattle.plm80_objects.specs.{Absolute.AreDumps, Absolute.dump_paths, Wrong.HaveNoDumps}
use Rattle.plm80_objects.proofs.DumpLemmas.{dumps_same, paths_are}
use Rattle.plm80_objects.proofs.Names.{ℕ, List, [], ◌++◌, ◌∙◌, ap, refl, subst, sym, IfOk-weaker, Journal, and_read_files, RomFile, AreDumpsRead}
use Rattle.plm80_objects.proofs.Names.{WritesDumps, WritesImage, rom_paths}
use Rattle.plm80_objects.proofs.absolute.write_dumps.Goals as goal

pub returns : goal.returns
returns g c =
    let asked = c.args.arguments.now in
    let roms = c.in_ok-files.files.items in
    let journal = g.C.Console.journal in
    let between = journal c.read_dumps.new.console in
    let made = c.answer-answer.result in
    let read = subst (λ (rs : List RomFile). AreDumpsRead rs (journal c.module_name.new.console) between c.in_ok-dumps.dumps) c.deref.ensures.value
    c.in_ok-dumps.ensures.dumps in
    let same = c.in_ok-name.ensures.unchanged ∙ c.in_ok-files.ensures.unchanged ∙ c.in_ok-start.ensures.unchanged in
    let both = both_if_made (WritesDumps asked) (dump_paths asked) (journal c.args.console.now) between (journal c.give_if_made-given.new.self) read.files
    (read.paths_are ∙ paths_are asked roms c.in_ok-files.ensures.files) (read.journal ∙ ap (λ (j : Journal). and_read_files j read.files) same)
    made c.give_if_made-given.result
    (IfOk-weaker made (WritesImage asked.image.now c.in_ok-name.name c.in_ok-dumps.dumps c.in_ok-start.start) (WritesDumps asked read.files)
    (λ answer writes. record {
      roms = roms;
      are_roms = c.in_ok-files.ensures.files;
      named = c.in_ok-name.ensures.taken;
      starts = c.in_ok-start.ensures.word.0;
      are_dumps = read.have.are_dumps;
      writes = record {
        image = writes.image;
        name_is = writes.name_is ∙ c.in_ok-name.ensures.name;
        chunks_are = writes.chunks_are ∙ read.have.chunks_are;
        start_is = writes.start_is ∙ c.in_ok-start.ensures.word.1;
        answer_is = writes.answer_is;
      };
    })
    c.answer-answer.ensures)
    c.give_if_made-given.ensures.given c.give_if_made-given.ensures.fault in
    record { done = both.0; fault = both.1 }

pub returns-in_err-start-clause-fault : goal.returns-in_err-start-clause-fault
returns-in_err-start-clause-fault g c =
    err_from c.from_residual.result
    (wrong_arguments (WritesDumps c.args.arguments.now) (λ files answer is. c.in_err-start.ensures.fault is.starts) c.in_err-start.ensures.failed)

pub returns-in_err-files-clause-fault : goal.returns-in_err-files-clause-fault
returns-in_err-files-clause-fault g c =
    let asked = c.args.arguments.now in
    let journal = g.C.Console.journal in
    err_from c.from_residual-in_err-files.result
    (wrong_so_far (WritesDumps asked) (dump_paths asked) (journal c.args.console.now) (journal c.word.new.console) (journal c.files_of.new.console) []
    (dump_paths asked) refl c.in_ok-start.ensures.unchanged (λ lacks others answer named is. lacks is.roms is.are_roms) c.in_err-files.ensures.fault)

pub returns-in_err-name-clause-fault : goal.returns-in_err-name-clause-fault
returns-in_err-name-clause-fault g c =
    let asked = c.args.arguments.now in
    let journal = g.C.Console.journal in
    err_from c.from_residual-in_err-name.result
    (wrong_so_far (WritesDumps asked) (dump_paths asked) (journal c.args.console.now) (journal c.files_of.new.console) (journal c.module_name.new.console) []
    (dump_paths asked) refl (c.in_ok-files.ensures.unchanged ∙ c.in_ok-start.ensures.unchanged)
    (λ none others answer named is. false≢true (sym none ∙ is.named)) c.in_err-name.ensures.failed)

pub returns-in_err-dumps-clause-fault : goal.returns-in_err-dumps-clause-fault
returns-in_err-dumps-clause-fault g c =
    let asked = c.args.arguments.now in
    let roms = c.in_ok-files.files.items in
    let old = g.C.Console.journal c.module_name.new.console in
    let new = g.C.Console.journal c.read_dumps.new.console in
    let are = c.in_ok-files.ensures.files in
    err_from c.from_residual-in_err-dumps.result
    (gives_up_unanswered (WritesDumps asked)
    (λ files lacks others answer named is. lacks others (subst AreDumps (dumps_same asked is.roms roms (files ++ others) is.are_roms are) is.are_dumps))
    (only_blames_same (c.in_ok-name.ensures.unchanged ∙ c.in_ok-files.ensures.unchanged ∙ c.in_ok-start.ensures.unchanged)
    (subst (λ (ps : List (List ℕ)). OnlyBlames (HaveNoDumps roms) ps old new) (paths_are asked roms are)
    (subst (λ (rs : List RomFile). OnlyBlames (HaveNoDumps rs) (rom_paths rs) old new) c.deref.ensures.value c.in_err-dumps.ensures.fault))))
