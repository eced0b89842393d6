use Rattle.std.proofs.Common.{◌≡◌, subst, List, None, Some}
use Rattle.std.proofs.lemmas.Result.{err_from_is_err_and}
use Rattle.omf_model.specs.Contents.{ContentValue}
use Rattle.omf_module.specs.declared.module_file.PlacedBody.{PlacedBody}
use Rattle.omf_module.specs.Uses.{bodies_fault}
use Rattle.omf_module.specs.Reading.{records_of, with_contents, OrNoMemory}
use Rattle.omf_module.proofs.UsedLemmas.{header_refused, contents_refused, start_refused, all_used}
use Rattle.omf_module.proofs.reading.used_contents.Goals as goal

pub returns-in-Err-clause-fault : goal.returns-in-Err-clause-fault
returns-in-Err-clause-fault c =
    rw c.at.ensures (header_refused (records_of c.args.file.now) c.args.draft.now c.in-Err.why c.requires c.in-Err.ensures)

pub returns-in_err-contents-clause-fault : goal.returns-in_err-contents-clause-fault
returns-in_err-contents-clause-fault c =
    let p = err_from_is_err_and c.from_residual.result c.from_residual.ensures.1 in
    rw (p.1, p.2) (contents_refused
    (records_of c.args.file.now) c.args.draft.now c.in_err-contents.field-0.0 c.requires c.in_default.ensures
    (subst (λ (b : List PlacedBody). OrNoMemory (λ fault. (cs : List ContentValue)
    → bodies_fault (with_contents c.args.draft.now cs) None b ≡ Some fault) c.in_err-contents.field-0.0)
    c.deref.ensures.value c.in_err-contents.ensures.fault))

pub returns-in-Err-check_start-clause-fault : goal.returns-in-Err-check_start-clause-fault
returns-in-Err-check_start-clause-fault c =
    rw c.at-in-Err-check_start.ensures
    (start_refused (records_of c.args.file.now) c.args.draft.now c.in-Err-check_start.why c.requires c.in_default.ensures
    (λ cs. rw c.deref.ensures.value at (c.in_ok-contents.ensures.sound cs)) c.in-Err-check_start.ensures)

pub returns-in-Ok-clause-sound : goal.returns-in-Ok-clause-sound
returns-in-Ok-clause-sound c =
    all_used (records_of c.args.file.now) c.args.draft.now c.requires c.in_default.ensures
    (λ cs. rw c.deref.ensures.value at (c.in_ok-contents.ensures.sound cs)) c.in-Ok.ensures
