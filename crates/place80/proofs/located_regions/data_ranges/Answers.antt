use Rattle.std.specs.Prelude.{◌++◌, ◌+◌, ◌∷◌, [], Bool, List, drop}
use Rattle.std.specs.Global.{Vec}
use Rattle.std.proofs.Common.{◌<◌, ◌∙◌, ap, sym}
use Rattle.place80.specs.declared.placed_segments.Placed.{Placed}
use Rattle.image80.specs.declared.range.Range.{Range}
use Rattle.image80.specs.RegionsText.{filled}
use Rattle.place80.specs.Locating.{is_data, located_data}
use Rattle.place80.proofs.LocatedLemmas.{item_has, one_range_more, no_range_more}
use Rattle.place80.proofs.located_regions.data_ranges.Goals as goal
use Rattle.place80.proofs.located_regions.data_ranges.Goals.{then-is_data+in_ok-push_filled, else-is_data}

pub range_at-requires : goal.range_at-requires
range_at-requires c = item_has
    (λ (p : Placed). p.length < 65536) c.args.segments.now c.loop-placed.placed-index _ c.requires c.loop-placed-test.true

pub loop-placed-preserved : goal.loop-placed-preserved
loop-placed-preserved c =
    let test : Placed → Bool = λ p. is_data p.id in
    let first : Placed = record { id = 0; base = 0; length = 0 } in
    let rest : List Range = located_data (drop (c.loop-placed.placed-index + 1) c.args.segments.now) in
    elim c.if-is_data.branch [
      | then-is_data+in_ok-push_filled w ↦
          ap (λ (v : Vec Range). v.items ++ rest) w.ranges-is
          ∙ ap (λ l. l ++ rest) (w.in_ok-push_filled.ensures
          ∙ ap (λ r. c.loop-placed.ranges.items ++ filled (r ∷ [])) w.range_at.ensures)
          ∙ one_range_more test c.args.segments.now c.loop-placed.placed-index first c.loop-placed.ranges.items
          c.loop-placed-test.true (sym c.is_data.ensures ∙ w.if-is_data.true)
          ∙ c.loop-placed.invariant
      | else-is_data w ↦
          ap (λ (v : Vec Range). v.items ++ rest) w.ranges-is
          ∙ no_range_more test c.args.segments.now c.loop-placed.placed-index first c.loop-placed.ranges.items
          c.loop-placed-test.true (sym c.is_data.ensures ∙ w.if-is_data.false)
          ∙ c.loop-placed.invariant
    ]
