use Rattle.plm80_console.specs.AnswerLaws.{err_from}
use Rattle.plm80_objects.proofs.Names.{◌++◌, ◌∷◌, [], is_ok, not, ◌∙◌, ap, cond-true, AreLinkFiles}
use Rattle.plm80_console.specs.Journal.OnlyBlames.{other}
use Rattle.plm80_files.specs.Wrong.{SpellsNeither}
use Rattle.plm80_objects.proofs.{ReadLemmas.blames_at, ReadLemmas.none_read, ReadLemmas.one_read, ReadLemmas.read_then_reported, ReadLemmas.text_of}
use Rattle.plm80_objects.specs.Find.AreLinkFiles.{none, more}
use Rattle.plm80_objects.proofs.find.read_all.Goals as goal

pub loop-path-init : goal.loop-path-init
loop-path-init g c =
    none_read text_of c.args.paths.now (g.C.Console.journal c.args.console.now) AreLinkFiles c.new-files.result.items [] c.new-files.ensures.items none

pub returns-in_err-file-clause-fault : goal.returns-in_err-file-clause-fault
returns-in_err-file-clause-fault g c =
    err_from c.from_residual.result
    (blames_at text_of c.args.paths.now c.loop-path.path-index c.loop-path.invariant SpellsNeither _ c.loop-path-test.true c.in_err-file.ensures.fault)

pub returns-then-is_err-clause-fault : goal.returns-then-is_err-clause-fault
returns-then-is_err-clause-fault g c =
    blames_at text_of c.args.paths.now c.loop-path.path-index c.loop-path.invariant SpellsNeither _ c.loop-path-test.true
    (other
    (read_then_reported _ c.in_ok-file.ensures.read.0 (g.C.Console.journal c.loop-path.console) (g.C.Console.journal c.read_link_file.new.console)
    (g.C.Console.journal c.report_memory.new.self) c.in_ok-file.ensures.read.1 c.report_memory.ensures))

pub loop-path-preserved : goal.loop-path-preserved
loop-path-preserved g c =
    let files = c.loop-path.files.items in
    let all = files ++ c.in_ok-file.file ∷ [] in
    one_read text_of c.args.paths.now c.loop-path.path-index _ (g.C.Console.journal c.args.console.now) (g.C.Console.journal c.loop-path.console)
    (g.C.Console.journal c.read_link_file.new.console) AreLinkFiles AreLinkFiles c.in_ok-file.ensures.read.0 files c.push.new.self.items all
    c.loop-path-test.true c.loop-path.invariant c.in_ok-file.ensures.read.1
    (c.push.ensures.items ∙ cond-true (is_ok c.push.result) all files (c.is_err.ensures.negation ∙ ap not c.if-is_err.false))
    (λ read named have. more read files _ c.in_ok-file.file have c.in_ok-file.ensures.read.2)
