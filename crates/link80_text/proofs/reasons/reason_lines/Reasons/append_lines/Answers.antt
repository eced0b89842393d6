use Rattle.std.specs.Prelude.{◌≡◌, map, Some, slice_get, slice_index_or}
use Rattle.std.proofs.Common.{◌∙◌, ap, sym}
use Rattle.std.proofs.lemmas.Option.{slice_get-get_or}
use Rattle.link80_select.specs.declared.chosen.Chosen.{Chosen}
use Rattle.link80_text.proofs.LineLemmas.{prints_more}
use Rattle.link80_text.proofs.reasons.reason_lines.Reasons.append_lines.Goals as goal

pub loop-number-preserved : goal.loop-number-preserved
loop-number-preserved c =
    let none : Chosen = record { library = 0; «module» = 0 } in
    let place : Chosen = slice_index_or c.args.taken.now c.loop-number.number none in
    let at : slice_get c.args.self.now.taken c.loop-number.number ≡ Some place =
    ap (λ ps. slice_get ps c.loop-number.number) (sym c.requires)
    ∙ slice_get-get_or c.args.taken.now c.loop-number.number none c.loop-number-test.true in
    prints_more c.args.self.now (map (λ p. p.now) c.args.paths.now) c.loop-number.number place c.args.text.now.items
    c.loop-number.text.items c.append_line.new.text.items c.loop-number.invariant at c.in_ok-append_line.ensures
