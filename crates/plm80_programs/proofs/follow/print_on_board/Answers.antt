use Rattle.std.specs.Prelude.{IfErr, List, Option}
use Rattle.std.proofs.Common.{subst, sym}
use Rattle.board80.specs.declared.line.Line.{Line}
use Rattle.plm80_names.specs.Blaming.{GivesUpOrBlames}
use Rattle.plm80_names.specs.Blaming.GivesUpOrBlames.{given_up}
use Rattle.std.proofs.lemmas.Result.{IfErr-weaker}
use Rattle.plm80_programs.specs.{Following.PrintsFollowedOn, Printed.AreNamedData}
use Rattle.plm80_programs.proofs.follow.print_on_board.Goals as goal

pub returns-in-None-clause-fault : goal.returns-in-None-clause-fault
returns-in-None-clause-fault g c =
    let asked = c.args.asked in
    subst
    (λ (board : Option (List Line)). IfErr c.print_followed.result
    (λ _. GivesUpOrBlames (AreNamedData board c.args.image.now.regions asked.quiet.now → ⊥)
    (PrintsFollowedOn board asked.quiet.now asked.interrupted asked.handlers.now asked.lists c.args.image.now c.args.names.now)
    (g.C.Console.journal c.args.console.now) (g.C.Console.journal c.print_followed.new.console)))
    (sym c.in-None.is) c.print_followed.ensures.fault

pub returns-in-Some-clause-fault : goal.returns-in-Some-clause-fault
returns-in-Some-clause-fault g c =
    let asked = c.args.asked in
    subst
    (λ (board : Option (List Line)). IfErr c.print_with_ram.result
    (λ _. GivesUpOrBlames (AreNamedData board c.args.image.now.regions asked.quiet.now → ⊥)
    (PrintsFollowedOn board asked.quiet.now asked.interrupted asked.handlers.now asked.lists c.args.image.now c.args.names.now)
    (g.C.Console.journal c.args.console.now) (g.C.Console.journal c.print_with_ram.new.console)))
    (sym c.in-Some.is) (IfErr-weaker c.print_with_ram.result _ _ (λ _. given_up) c.print_with_ram.ensures.fault)
