use Rattle.plm80_console.specs.AnswerLaws.{both_if_made, gives_up_unanswered}
use Rattle.plm80_files.specs.{Wrong.SpellsNoModules, WrongLaws.of_first}
use Rattle.plm80_objects.proofs.Names.{List, [], ◌∷◌, refl, subst, IfOk, IfOk-weaker, ModuleValue, file_value, AnswersModules, DescribesModules}
use Rattle.plm80_objects.proofs.module.describe_file.Goals as goal

pub returns-in-Ok : goal.returns-in-Ok
returns-in-Ok g c =
    let read = c.in-Ok.ensures.read in
    let modules = c.in-Ok.modules.items in
    let path = c.args.arguments.object.now in
    let file = file_value path read.0 in
    let made = c.describe_modules-answer.result in
    let both = both_if_made (AnswersModules DescribesModules) (path ∷ []) (g.C.Console.journal c.args.console.now)
    (g.C.Console.journal c.read_modules.new.console) (g.C.Console.journal c.give_if_made.new.self) (file ∷ []) refl read.1 made c.give_if_made.result
    (IfOk-weaker made (DescribesModules modules) (AnswersModules DescribesModules (file ∷ []))
    (λ answer answers. record { file = file; files_are = refl; modules = modules; spelled = read.2; answers = answers })
    (subst (λ (ms : List ModuleValue). IfOk made (DescribesModules ms)) c.deref.ensures.value c.describe_modules-answer.ensures))
    c.give_if_made.ensures.given c.give_if_made.ensures.fault in
    record { done = both.0; fault = both.1 }

pub returns-in-Err-clause-fault : goal.returns-in-Err-clause-fault
returns-in-Err-clause-fault g c =
    gives_up_unanswered (AnswersModules DescribesModules)
    (λ files lacks others answer named is. of_first SpellsNoModules files others [] is.file is.files_are lacks is.modules is.spelled)
    c.in-Err.ensures.fault
