use Rattle.std.proofs.Common.{◌∙◌, ap, false, subst}
use Rattle.plm80_console.specs.{Answer.StopsWriting, Journal.Journal, Journal.and_reported, Replaced.NotSettled}
use Rattle.plm80_console.specs.declared.new_file.NewFile.{NewFile}
use Rattle.plm80_host.specs.Drafts.{NotBothSettled}
use Rattle.plm80_host.proofs.DraftLemmas.{both_values, first_unwritten, not_both, on_fault, second_unwritten}
use Rattle.plm80_host.proofs.host.HostConsoleConsole.replace_both.Goals as goal

pub returns-then-is_no_path-clause-fault : goal.returns-then-is_no_path-clause-fault
returns-then-is_no_path-clause-fault c =
    second_unwritten c.args.first c.args.second c.args.self.now.notes.journal c.report_no_path.new.self.notes.journal
    (false, c.report_no_path.ensures ∙ ap and_reported c.note.ensures)

pub returns-in_err-first_draft-clause-fault : goal.returns-in_err-first_draft-clause-fault
returns-in_err-first_draft-clause-fault c =
    on_fault c.from_residual.result
    (first_unwritten c.args.first c.args.second c.args.self.now.notes.journal c.draft.new.self.notes.journal c.in_err-first_draft.ensures.fault)

pub returns-in-Err-clause-fault : goal.returns-in-Err-clause-fault
returns-in-Err-clause-fault c =
    second_unwritten c.args.first c.args.second c.args.self.now.notes.journal c.draft-2.new.self.notes.journal
    (subst (λ (j : Journal). NotSettled c.args.second.path.now j c.draft-2.new.self.notes.journal) c.in_ok-first_draft.ensures.unchanged
    c.in-Err.ensures.fault)

pub returns-in_err-settle_both-in-Ok-clause-fault : goal.returns-in_err-settle_both-in-Ok-clause-fault
returns-in_err-settle_both-in-Ok-clause-fault c =
    let first = c.in_ok-first_draft.first_draft in
    let second = c.in-Ok.second_draft in
    let old = c.args.self.now.notes.journal in
    let new = c.settle_both.new.self.notes.journal in
    let same = c.in-Ok.ensures.unchanged ∙ c.in_ok-first_draft.ensures.unchanged in
    on_fault c.from_residual-in_err-settle_both-in-Ok.result
    (subst (λ (f : NewFile). StopsWriting (both_values f c.args.second) old new) c.in_ok-first_draft.ensures.draft.file_is
    (subst (λ (f : NewFile). StopsWriting (both_values first.file f) old new) c.in-Ok.ensures.draft.file_is
    (not_both first second c.in_order-earlier.result old new c.in_order-earlier.ensures
    (subst (λ (j : Journal). NotBothSettled c.in_order-earlier.result.0.file c.in_order-earlier.result.1.file j new) same
    c.in_err-settle_both-in-Ok.ensures.fault))))
