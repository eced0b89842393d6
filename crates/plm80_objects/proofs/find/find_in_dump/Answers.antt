use Rattle.plm80_console.specs.AnswerLaws.{both_if_made, err_from, gives_up_unanswered, wrong_arguments, wrong_so_far}
use Rattle.plm80_console.specs.{Answer.AnswerValue, Journal.FileValue, Journal.OnlyBlames}
use Rattle.plm80_files.specs.Wrong.{SpellsNeither}
use Rattle.plm80_objects.specs.Wrong.{OfOne}
use Rattle.plm80_objects.proofs.FaultLemmas.{none_found}
use Rattle.plm80_objects.specs.{Arguments.WritesWord, Compare.IsDump, declared.find.FindArguments.FindArguments}
use Rattle.std.specs.Prelude.{slice_index_or}
use Rattle.plm80_objects.proofs.Names.{◌++◌, drop}
use Rattle.plm80_objects.proofs.Names.{◌≡◌, Bor, ℕ, List, [], ◌∷◌, refl, ◌∙◌, ap, subst, sym, IfOk, IfOk-weaker, DumpValue, LinkFile, dump_of, Journal}
use Rattle.plm80_objects.proofs.Names.{and_read, and_read_files, file_value, FindsModules, PrintsFound}
use Rattle.plm80_objects.proofs.ReadLemmas.{blamed_behind, refused_dump, texts}
use Rattle.plm80_objects.proofs.find.find_in_dump.Goals as goal

-- a file that is no dump is that of no answer
no_dump : (asked : FindArguments) (file : FileValue) (others : List FileValue) (answer : AnswerValue) (first : ℕ) → WritesWord asked.first first
    → FindsModules asked ((file ∷ []) ++ others) answer → (IsDump first file.bytes → ⊥) → ⊥
no_dump asked file others answer first is_first is lacks =
    let same : is.dump ≡ file = sym (ap (λ (fs : List FileValue). slice_index_or fs 0 file) is.read_are) in
    lacks
    (subst (λ (f : FileValue). IsDump first f.bytes) same
    (subst (λ (n : ℕ). IsDump n is.dump.bytes) (is.first_is.1 ∙ sym is_first.1) is.whole))

pub returns : goal.returns
returns g c =
    let asked = c.args.arguments.now in
    let file = file_value asked.dump.now c.in_ok-file.file.bytes.items in
    let first = c.in_ok-first.first in
    let dump = c.in-Ok.dump in
    let journal = g.C.Console.journal in
    let read = c.in_ok-files.ensures.read in
    let same : dump_of dump ≡ record { first = first; bytes = file.bytes } =
    λ k. record { first = c.in-Ok.ensures.dump.0 k; bytes = c.in-Ok.ensures.dump.1 k } in
    let made = c.find_all-answer.result in
    let found = subst (λ (d : DumpValue). IfOk made (PrintsFound d c.in_ok-files.files.items)) same
    (subst (λ (fs : List LinkFile). IfOk made (PrintsFound (dump_of dump) fs)) c.deref-2.ensures.value c.find_all-answer.ensures) in
    let both = both_if_made (FindsModules asked) (file.path ∷ texts asked.files.items) (journal c.args.console.now) (journal c.read_all.new.console)
    (journal c.give_if_made.new.self) (file ∷ read.files)
    (ap (λ (ps : List (List ℕ)). file.path ∷ ps) (read.paths_are ∙ ap texts c.deref.ensures.value))
    (read.journal ∙ ap (λ (j : Journal). and_read_files j read.files)
    (c.in_ok-file.ensures.read ∙ ap (λ (j : Journal). and_read j file.path file.bytes) c.in_ok-first.ensures.unchanged))
    made c.give_if_made.result
    (IfOk-weaker made (PrintsFound (record { first = first; bytes = file.bytes }) c.in_ok-files.files.items) (FindsModules asked (file ∷ read.files))
    (λ answer is. record {
      dump = file;
      files = read.files;
      read_are = refl;
      first = first;
      first_is = c.in_ok-first.ensures.word;
      whole = c.in-Ok.ensures.whole;
      are = c.in_ok-files.files.items;
      are_files = read.have;
      answer_is = is;
    })
    found)
    c.give_if_made.ensures.given c.give_if_made.ensures.fault in
    record { done = both.0; fault = both.1 }

-- a fault behind the dump
pub returns-in-Err-clause-fault : goal.returns-in-Err-clause-fault
returns-in-Err-clause-fault g c =
    let asked = c.args.arguments.now in
    let file = file_value asked.dump.now c.in_ok-file.file.bytes.items in
    wrong_so_far (FindsModules asked) (file.path ∷ texts asked.files.items) (g.C.Console.journal c.args.console.now) (g.C.Console.journal c.read_file.new.self)
    (g.C.Console.journal c.blame_rom_fault.new.console) (file ∷ []) (texts asked.files.items) refl
    (c.in_ok-file.ensures.read ∙ ap (λ (j : Journal). and_read j file.path file.bytes) c.in_ok-first.ensures.unchanged)
    (λ no_memory others answer named is.
    no_dump asked file others answer c.in_ok-first.first c.in_ok-first.ensures.word is
    (refused_dump c.in_ok-first.first file.bytes c.in-Err.fault.fault no_memory c.in-Err.ensures.fault.1))
    c.blame_rom_fault.ensures

pub returns-in_err-first-clause-fault : goal.returns-in_err-first-clause-fault
returns-in_err-first-clause-fault g c =
    err_from c.from_residual.result
    (wrong_arguments (FindsModules c.args.arguments.now) (λ files answer is. c.in_err-first.ensures.fault is.first_is.0) c.in_err-first.ensures.failed)

pub returns-in_err-files-clause-fault : goal.returns-in_err-files-clause-fault
returns-in_err-files-clause-fault g c =
    let asked = c.args.arguments.now in
    let file = file_value asked.dump.now c.in_ok-file.file.bytes.items in
    let further = texts asked.files.items in
    err_from c.from_residual-in_err-files.result
    (gives_up_unanswered (FindsModules asked) (λ files lacks others answer named is. none_found asked files others answer is lacks)
    (blamed_behind (OfOne SpellsNeither) (λ (files : List FileValue). OfOne SpellsNeither (drop 1 files)) {paths = file.path ∷ further} (file ∷ []) refl
    (c.in_ok-file.ensures.read ∙ ap (λ (j : Journal). and_read j file.path file.bytes) c.in_ok-first.ensures.unchanged) (λ others lacks. lacks)
    (subst (λ (ps : List (Bor (List ℕ))). OnlyBlames (OfOne SpellsNeither) (texts ps) (g.C.Console.journal c.read_file.new.self) (g.C.Console.journal c.read_all.new.console))
    c.deref.ensures.value c.in_err-files.ensures.fault)))
