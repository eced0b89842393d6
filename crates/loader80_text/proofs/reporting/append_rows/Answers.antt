-- one line more
use Rattle.std.proofs.Common.{◌≡◌, ◌+◌, ◌++◌, false, drop, get_or, append_assoc, ap, sym, ◌∙◌}
use Rattle.std.specs.List.{flat_map}
use Rattle.std.proofs.lemmas.List.{drop_more}
use Rattle.verify80_flow.specs.declared.report.ProcRow.{ProcRow}
use Rattle.loader80_text.specs.ReportText.{row_line}
use Rattle.loader80_text.proofs.reporting.append_rows.Goals as goal

pub loop-row-preserved : goal.loop-row-preserved
loop-row-preserved c =
    let i = c.loop-row.row-index in
    let d : ProcRow = record { entry = 0; takes = 0; wants = 0; bound = 0; returns = false } in
    let rest = flat_map row_line (drop (i + 1) c.args.rows.now) in
    ap (λ l. l ++ rest) c.in_ok-append_row.ensures
    ∙ append_assoc c.loop-row.text.items (row_line (get_or c.args.rows.now i d)) rest
    ∙ ap (λ l. c.loop-row.text.items ++ flat_map row_line l) (sym (drop_more c.args.rows.now i d c.loop-row-test.true))
    ∙ c.loop-row.invariant
