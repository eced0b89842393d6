use Rattle.std.proofs.lemmas.Result.{err_from_is_err_and}
use Rattle.omf_module.specs.Uses.{unknown_id, ids_in, place_fault, reference_fault}
use Rattle.omf_module.specs.Reading.{with_contents}
use Rattle.omf_module.proofs.UseLemmas.{own_first, references_refused, references_taken}
use Rattle.omf_module.proofs.uses.take_body.Goals as goal

pub returns-in_err-look_at-clause-fault : goal.returns-in_err-look_at-clause-fault
returns-in_err-look_at-clause-fault c =
    let p = err_from_is_err_and c.from_residual.result c.from_residual.ensures.1 in
    rw (p.1, p.2) (λ _ cs.
    let m = with_contents c.args.parts.now cs in
    own_first (unknown_id m (ids_in c.args.body.now)) (place_fault m c.args.body.now)
    (reference_fault m c.args.nearest c.args.body.now) c.in_err-look_at.field-0.0 (c.in_err-look_at.ensures cs))

pub returns-in_default-clause-fault : goal.returns-in_default-clause-fault
returns-in_default-clause-fault c =
    references_refused c.args.parts.now c.args.nearest c.args.body.now c.take_fixups.result c.in_ok-look_at.ensures
    c.take_fixups.ensures.fault

pub returns-in_default-clause-taken : goal.returns-in_default-clause-taken
returns-in_default-clause-taken c =
    references_taken c.args.parts.now c.args.nearest c.args.body.now c.args.whole.now.items c.take_fixups.result
    c.in_default.not-Content c.in_ok-look_at.ensures c.take_fixups.ensures.sound c.take_fixups.ensures.taken
