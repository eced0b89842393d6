use Rattle.std.specs.Prelude.{◌≡◌, ◌++◌, List, OnOk}
use Rattle.std.proofs.Common.{◌∙◌, subst, sym}
use Rattle.place80.specs.declared.place_fault.PlaceFault.{PlaceFault}
use Rattle.place80.specs.declared.placed_segments.Placed.{Placed}
use Rattle.place80.specs.Causes.{cause_text, high_text}
use Rattle.place80.proofs.causes.cause_text.append_cause.Goals as goal

pub returns-in_ok-place_all-in-HighNotPaged : goal.returns-in_ok-place_all-in-HighNotPaged
returns-in_ok-place_all-in-HighNotPaged c =
    let program = c.args.program.now in
    let text = c.args.text.now.items in
    let after = c.append_high_byte.new.text.items in
    subst (λ (f : PlaceFault). OnOk c.append_high_byte.result (after ≡ text ++ cause_text c.args.options.now program f))
    (sym c.in-HighNotPaged.is)
    (subst (λ (l : List Placed). OnOk c.append_high_byte.result (after ≡ text ++ high_text program l))
    (c.deref-in-HighNotPaged.ensures.value ∙ c.in_ok-place_all-in-HighNotPaged.ensures.places) c.append_high_byte.ensures)
