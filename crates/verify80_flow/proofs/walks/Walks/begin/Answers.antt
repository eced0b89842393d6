use Rattle.std.proofs.Common.{sym, subst}
use Rattle.verify80_flow.specs.Walked.{IsWalked}
use Rattle.verify80_flow.proofs.WalkedLemmas.{all_stay, begins_there, point_of}
use Rattle.frames80.specs.declared.procedure.Procedure.TheVariants.{Main}
use Rattle.verify80_flow.proofs.walks.Walks.begin.Goals as goal

pub returns-clause-walked : goal.returns-clause-walked
returns-clause-walked g c = all_stay (g.C.Code.code c.args.program.now) c.args.self.now c.main_entry.new.self c.main_entry.ensures.stays c.requires

pub returns-clause-next : goal.returns-clause-next
returns-clause-next g c =
    let code = g.C.Code.code c.args.program.now in
    let id = c.in_ok-frame.frame in
    subst (λ at. IsWalked code c.main_entry.new.self (point_of Main at id)) (sym c.start.ensures) (begins_there code c.main_entry.new.self id c.in_ok-frame.ensures.entry)
