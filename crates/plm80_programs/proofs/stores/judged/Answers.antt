use Rattle.plm80_programs.proofs.Names.{subst, AnswersVerdict, IfOk-weaker, IsVerdict, ListedStores, ListsStores}
use Rattle.plm80_names.specs.Verdict.AnswersVerdict.{accepted, refused}
use Rattle.plm80_programs.proofs.stores.judged.Goals as goal

pub returns-in-Accepted : goal.returns-in-Accepted
returns-in-Accepted c =
    let Lists = ListsStores c.args.quiet.now c.args.names.now in
    let is = subst (IsVerdict c.args.image c.args.names.now) c.in-Accepted.is c.in_ok-vouched.ensures in
    IfOk-weaker c.stores_of.result (λ (listed : ListedStores). Lists c.in-Accepted.vouched listed.answer)
    (λ (listed : ListedStores). AnswersVerdict Lists c.args.image c.args.names.now listed.answer)
    (λ _ lists. accepted c.in-Accepted.vouched is lists) c.stores_of.ensures

pub returns-in-Refused : goal.returns-in-Refused
returns-in-Refused c =
    refused c.in-Refused.line.items (subst (IsVerdict c.args.image c.args.names.now) c.in-Refused.is c.in_ok-vouched.ensures)
    c.prints.ensures
