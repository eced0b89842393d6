use Rattle.std.proofs.Common.{false, List, ℕ, refl, ◌∙◌, ap, inl}
use Rattle.plm80_console.specs.{Journal.Journal, Journal.and_reported, Journal.and_unwritten, Replaced.GaveUpKeeping, Replaced.NotSettled}
use Rattle.plm80_host.proofs.DraftLemmas.{on_fault}
use Rattle.plm80_host.proofs.host.HostConsoleConsole.replace_keeping_objects.Goals as goal

-- a fault before a copy is kept
unkept : (path : List ℕ) (old new : Journal) → NotSettled path old new → GaveUpKeeping path old new
unkept path old new fault = record { between = old; kept = inl refl; fault = fault }

pub returns-in_err-draft-clause-fault : goal.returns-in_err-draft-clause-fault
returns-in_err-draft-clause-fault c =
    on_fault c.from_residual.result
    (unkept c.args.path.now c.args.self.now.notes.journal c.draft.new.self.notes.journal c.in_err-draft.ensures.fault)

pub returns-in-Err-clause-fault : goal.returns-in-Err-clause-fault
returns-in-Err-clause-fault c =
    unkept c.args.path.now c.args.self.now.notes.journal c.note-in-Err.new.self.notes.journal (
      false,
      c.note-in-Err.ensures ∙ ap (λ (j : Journal). and_unwritten j c.args.path.now false)
          (c.in-Err.ensures.fault ∙ ap and_reported c.in_ok-draft.ensures.unchanged),
    )
