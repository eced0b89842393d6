use Rattle.std.proofs.Common.{◌≡◌, ℕ, subst, arith}
use Rattle.verify80_flow.specs.Survey.{AreListed}
use Rattle.verify80_flow.proofs.SurveyLemmas.{row_less, row_more, not_entered}
use Rattle.verify80_flow.proofs.rows.list_rows.Goals as goal
use Rattle.verify80_flow.proofs.rows.list_rows.Goals.{then-has_row+in_ok-push, else-has_row}

pub loop-address-preserved : goal.loop-address-preserved
loop-address-preserved c =
    let known = c.args.table.now.known in
    let wants = c.args.wants.now in
    let bytes = c.args.bounds.now in
    let address = c.loop-address.address in
    elim c.if-has_row.branch [
      | then-has_row+in_ok-push w ↦
          rw (w.rows-is, w.in_ok-push.ensures.items)
          (record {
            listed = row_more known wants bytes address c.loop-address.rows.items w.row.result (c.has_row.ensures.yes w.if-has_row.true) w.row.ensures c.loop-address.invariant.listed;
          })
      | else-has_row w ↦
          rw w.rows-is
          (record {
            listed = row_less known wants bytes address c.loop-address.rows.items (not_entered known address (c.has_row.ensures.no w.if-has_row.false)) c.loop-address.invariant.listed;
          })
    ]

pub returns : goal.returns
returns c =
    let end : c.loop-address.address ≡ 65536 = omega (arith, c.loop-address-test.false, c.loop-address.auto.address-end) in
    subst (λ (n : ℕ). AreListed c.args.table.now.known c.args.wants.now c.args.bounds.now n c.loop-address.rows.items) end c.loop-address.invariant.listed
