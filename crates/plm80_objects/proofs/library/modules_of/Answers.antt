use Rattle.plm80_console.specs.AnswerLaws.{err_from}
use Rattle.plm80_objects.proofs.Names.{◌++◌, [], ◌∙◌, AreModulesOf}
use Rattle.plm80_console.specs.Journal.OnlyBlames.{other}
use Rattle.plm80_files.specs.Wrong.{SpellsNoModules}
use Rattle.plm80_objects.proofs.{ReadLemmas.blames_at, ReadLemmas.none_read, ReadLemmas.one_read, ReadLemmas.read_then_reported, ReadLemmas.text_of}
use Rattle.plm80_objects.specs.Modules.AreModulesOf.{none, more}
use Rattle.plm80_objects.proofs.library.modules_of.Goals as goal

pub loop-path-init : goal.loop-path-init
loop-path-init g c =
    none_read text_of c.args.paths.now (g.C.Console.journal c.args.console.now) AreModulesOf c.new-modules.result.items [] c.new-modules.ensures.items none

pub returns-in_err-read-clause-fault : goal.returns-in_err-read-clause-fault
returns-in_err-read-clause-fault g c =
    err_from c.from_residual.result
    (blames_at text_of c.args.paths.now c.loop-path.path-index c.loop-path.invariant SpellsNoModules _ c.loop-path-test.true c.in_err-read.ensures.fault)

pub returns-in_err-append_modules-clause-fault : goal.returns-in_err-append_modules-clause-fault
returns-in_err-append_modules-clause-fault g c =
    err_from c.from_residual-in_err-append_modules.result
    (blames_at text_of c.args.paths.now c.loop-path.path-index c.loop-path.invariant SpellsNoModules _ c.loop-path-test.true
    (other
    (read_then_reported _ c.in_ok-read.ensures.read.0 (g.C.Console.journal c.loop-path.console) (g.C.Console.journal c.read_modules.new.console)
    (g.C.Console.journal c.append_modules.new.console) c.in_ok-read.ensures.read.1 c.in_err-append_modules.ensures.fault)))

pub loop-path-preserved : goal.loop-path-preserved
loop-path-preserved g c =
    let modules = c.loop-path.modules.items in
    let own = c.in_ok-read.read.items in
    one_read text_of c.args.paths.now c.loop-path.path-index _ (g.C.Console.journal c.args.console.now) (g.C.Console.journal c.loop-path.console)
    (g.C.Console.journal c.append_modules.new.console) AreModulesOf AreModulesOf c.in_ok-read.ensures.read.0 modules c.append_modules.new.modules.items
    (modules ++ own) c.loop-path-test.true c.loop-path.invariant (c.in_ok-append_modules.ensures.unchanged ∙ c.in_ok-read.ensures.read.1)
    c.in_ok-append_modules.ensures.appended (λ read named have. more read modules _ own have c.in_ok-read.ensures.read.2)
