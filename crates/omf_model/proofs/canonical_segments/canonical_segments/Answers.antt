use Rattle.std.proofs.Common.{ap, sym, ◌∙◌, ◌++◌, ◌-◌, ◌+◌, List, ℕ}
use Rattle.std.proofs.lemmas.List.{append-nil}
use Rattle.std.specs.List.{range_with_len}
use Rattle.omf_model.specs.declared.segment.Segment.{Segment}
use Rattle.std.specs.Global.{Vec}
use Rattle.omf_model.specs.Segments.{entry_for, entries_for}
use Rattle.omf_model.proofs.ListingLemmas.{listed_from_first, listed_step, listed_end, cons_listed, cons_unlisted}
use Rattle.omf_model.proofs.canonical_segments.canonical_segments.Goals as goal
use Rattle.omf_model.proofs.canonical_segments.canonical_segments.Goals.{in-Some+in_ok-push, in_default}

pub loop-id-init : goal.loop-id-init
loop-id-init c = ap (λ (x : List (ℕ × Segment)). x ++ entries_for c.args.entries.now c.args.commons.now (range_with_len 1 255)) c.new-listed.ensures.items ∙ listed_from_first c.args.entries.now c.args.commons.now

pub loop-id-preserved : goal.loop-id-preserved
loop-id-preserved c =
    let step = listed_step c.args.entries.now c.args.commons.now c.loop-id.id c.loop-id-test.true in
    let before = ap (λ (x : List (ℕ × Segment)). c.loop-id.listed.items ++ x) (sym step) ∙ c.loop-id.invariant in
    let rest = entries_for c.args.entries.now c.args.commons.now (range_with_len (c.loop-id.id + 1) (256 - (c.loop-id.id + 1))) in
    elim c.match-entry_for.branch [
      | in-Some+in_ok-push w ↦
          ap (λ (v : Vec (ℕ × Segment)). v.items ++ rest) w.listed-is
          ∙ (ap (λ (x : List (ℕ × Segment)). x ++ rest) w.in_ok-push.ensures.items
          ∙ (sym (cons_listed c.loop-id.listed.items rest (entry_for c.args.entries.now c.args.commons.now c.loop-id.id) w.in-Some.entry (sym w.in-Some.ensures)) ∙ before))
      | in_default w ↦
          ap (λ (v : Vec (ℕ × Segment)). v.items ++ rest) w.listed-is
          ∙ (sym (cons_unlisted c.loop-id.listed.items rest (entry_for c.args.entries.now c.args.commons.now c.loop-id.id) (sym c.entry_for.ensures ∙ w.in_default.is)) ∙ before)
    ]

pub returns : goal.returns
returns c =
    sym (append-nil c.loop-id.listed.items)
    ∙ (ap (λ (x : List (ℕ × Segment)). c.loop-id.listed.items ++ x) (sym (listed_end c.args.entries.now c.args.commons.now c.loop-id.id c.loop-id-test.false)) ∙ c.loop-id.invariant)
