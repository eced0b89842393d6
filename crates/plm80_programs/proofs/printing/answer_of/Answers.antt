use Rattle.plm80_programs.proofs.Names.{subst, IsVerdict}
use Rattle.plm80_names.specs.Verdict.AnswersVerdict.{accepted, refused}
use Rattle.plm80_programs.proofs.printing.answer_of.Goals as goal

pub returns-in_ok-text-in-Accepted : goal.returns-in_ok-text-in-Accepted
returns-in_ok-text-in-Accepted g c =
    accepted c.in-Accepted.vouched (subst (IsVerdict c.args.image c.args.names.now) c.in-Accepted.is c.in_ok-vouched.ensures)
    (record { text = c.in_ok-text-in-Accepted.text.items; says = c.in_ok-text-in-Accepted.ensures; answer_is = c.prints.ensures })

pub returns-in-Refused : goal.returns-in-Refused
returns-in-Refused g c =
    refused c.in-Refused.line.items (subst (IsVerdict c.args.image c.args.names.now) c.in-Refused.is c.in_ok-vouched.ensures)
    c.prints-in-Refused.ensures
