use Rattle.std.specs.Prelude.{◌++◌, ◌+◌, ◌∷◌, [], ℕ, List, drop}
use Rattle.std.specs.List.{flat_map}
use Rattle.std.proofs.Common.{◌∙◌, ap}
use Rattle.image80.specs.declared.range.Range.{Range}
use Rattle.image80.specs.RegionsText.{range_text}
use Rattle.image80.proofs.WriteLemmas.{one_line_more}
use Rattle.image80.proofs.write.put_lines.Goals as goal

pub loop-range-preserved : goal.loop-range-preserved
loop-range-preserved c =
    let line : Range → List ℕ = λ range. (c.args.keyword.now ++ range_text range) ++ 10 ∷ [] in
    ap (λ l. l ++ flat_map line (drop (c.loop-range.range-index + 1) c.args.ranges.now)) c.in_ok-put_line.ensures
    ∙ one_line_more line c.args.ranges.now c.loop-range.range-index (record { first = 0; length = 0 }) c.loop-range.text.items c.loop-range-test.true
    ∙ c.loop-range.invariant
