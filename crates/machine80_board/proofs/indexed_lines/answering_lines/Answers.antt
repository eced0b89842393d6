use Rattle.std.proofs.Common.{◌≡◌, ◌+◌, ◌-◌, ℕ, Some, arith, drop, subst, sym}
use Rattle.std.specs.Prelude.{slice_set}
use Rattle.machine80_board.specs.Index.{IsAnswering}
use Rattle.machine80_board.proofs.LineLemmas.{answering_all, answering_kept, answering_more, answering_none}
use Rattle.machine80_board.proofs.indexed_lines.answering_lines.Goals as goal

pub loop-index-init : goal.loop-index-init
loop-index-init c =
    let g = c.in_ok-table.ensures.items_if_clones_equal in
    answering_none _ c.args.lines.now c.in_ok-table.table.items g (λ n h. h)

pub loop-index-preserved-in-Reads : goal.loop-index-preserved-in-Reads
loop-index-preserved-in-Reads c =
    let lines = c.args.lines.now in
    let i : ℕ = c.loop-index.index - 1 in
    let next : c.loop-index.index ≡ i + 1 = omega (arith, c.loop-index-test.true) in
    let old = subst (λ (k : ℕ). IsAnswering lines (drop k lines) c.loop-index.table.items) next c.loop-index.invariant in
    subst (λ (k : ℕ). IsAnswering lines (drop i lines) (slice_set c.loop-index.table.items k (Some i))) (sym c.slot.ensures.slot)
    (answering_more lines i c.index-lines-index.result c.in-Reads.place c.in-Reads.field-1 c.loop-index.table.items (omega (arith, c.loop-index-test.true, c.loop-index.auto.index)) c.index-lines-index.is c.in-Reads.is c.slot.ensures.place old)

pub loop-index-preserved : goal.loop-index-preserved
loop-index-preserved c =
    let lines = c.args.lines.now in
    let i : ℕ = c.loop-index.index - 1 in
    let next : c.loop-index.index ≡ i + 1 = omega (arith, c.loop-index-test.true) in
    let old = subst (λ (k : ℕ). IsAnswering lines (drop k lines) c.loop-index.table.items) next c.loop-index.invariant in
    answering_kept lines i c.index-lines-index.result c.loop-index.table.items (omega (arith, c.loop-index-test.true, c.loop-index.auto.index)) c.index-lines-index.is c.in_default.not-Reads old

pub returns : goal.returns
returns c = answering_all c.args.lines.now c.loop-index.index c.loop-index.table.items (omega (arith, c.loop-index-test.false)) c.loop-index.invariant
