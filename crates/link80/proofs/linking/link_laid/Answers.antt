use Rattle.std.specs.Prelude.{◌≡◌, List, true, false, Some, IfOk, IfErr}
use Rattle.std.proofs.Common.{◌∙◌, ap, sym, subst}
use Rattle.std.proofs.lemmas.Result.{err_from_is_err_and}
use Rattle.omf_model.specs.Modules.{ModuleValue}
use Rattle.link80.specs.LinkFault.{two_mains, too_many_externals, link_fault}
use Rattle.link80.specs.Linking.{IsFirstFault, IsLinkOf}
use Rattle.link80.proofs.MainLemmas.{two_mains_are, one_main_is}
use Rattle.link80.proofs.OrderLemmas.{from_sixth, high_by, mains_first, high_first, commons_first}
use Rattle.link80.proofs.linking.link_laid.Goals as goal

pub returns-in_err-main-clause-fault : goal.returns-in_err-main-clause-fault
returns-in_err-main-clause-fault c =
    let p = err_from_is_err_and c.from_residual.result c.from_residual.ensures.1 in
    let two : two_mains c.args.laid.now ≡ Some c.in_err-main.field-0.0 =
    two_mains_are c.args.laid.now c.in_err-main.ensures.fault.1 ∙ ap Some (sym c.in_err-main.ensures.fault.0) in
    rw (p.1, p.2) (λ real. mains_first c.args.laid.now c.in_err-main.field-0.0 c.requires.once c.requires.segments_fit two)

pub returns-then-any_high_off_page-clause-fault : goal.returns-then-any_high_off_page-clause-fault
returns-then-any_high_off_page-clause-fault c real =
    high_first c.args.laid.now _ c.requires.once c.requires.segments_fit
    (one_main_is c.args.laid.now c.in_ok-main.main c.in_ok-main.ensures.main)
    (high_by c.args.laid.now true c.if-any_high_off_page.ensures)

pub returns-in_err-joined-clause-fault : goal.returns-in_err-joined-clause-fault
returns-in_err-joined-clause-fault c =
    let p = err_from_is_err_and c.from_residual-in_err-joined.result c.from_residual-in_err-joined.ensures.1 in
    rw (p.1, p.2) (λ real.
    commons_first c.args.laid.now c.in_err-joined.field-0.0 c.requires.once c.requires.segments_fit
    (one_main_is c.args.laid.now c.in_ok-main.main c.in_ok-main.ensures.main)
    (high_by c.args.laid.now false c.if-any_high_off_page.ensures) (c.in_err-joined.ensures.fault real))

pub link_joined-requires-clause-no_other_fault : goal.link_joined-requires-clause-no_other_fault
link_joined-requires-clause-no_other_fault c =
    subst (λ (ms : List ModuleValue). link_fault ms ≡ too_many_externals ms) (sym c.in_ok-joined.ensures.same)
    (from_sixth c.args.laid.now c.requires.once c.requires.segments_fit
    (one_main_is c.args.laid.now c.in_ok-main.main c.in_ok-main.ensures.main)
    (high_by c.args.laid.now false c.if-any_high_off_page.ensures) c.in_ok-joined.ensures.fit)

pub returns-clause-made : goal.returns-clause-made
returns-clause-made c =
    subst (λ (ms : List ModuleValue). IfOk c.link_joined.result (λ made. IsLinkOf c.args.name.now ms made.0 made.1.items))
    c.in_ok-joined.ensures.same c.link_joined.ensures.made

pub returns-clause-fault : goal.returns-clause-fault
returns-clause-fault c =
    subst (λ (ms : List ModuleValue). IfErr c.link_joined.result (IsFirstFault ms)) c.in_ok-joined.ensures.same
    c.link_joined.ensures.fault
