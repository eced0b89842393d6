use Rattle.std.specs.Prelude.{◌++◌, ◌+◌, ◌∷◌, ◌==◌, [], Bool, List, drop}
use Rattle.std.specs.Global.{Vec}
use Rattle.std.proofs.Common.{◌<◌, ◌∙◌, ap}
use Rattle.std.proofs.lemmas.Bool.{eq-eqb, ne_eqb}
use Rattle.place80.specs.declared.placed_segments.Placed.{Placed}
use Rattle.image80.specs.declared.range.Range.{Range}
use Rattle.image80.specs.RegionsText.{filled}
use Rattle.place80.specs.Locating.{located_code}
use Rattle.place80.proofs.LocatedLemmas.{item_has, one_range_more, no_range_more}
use Rattle.place80.proofs.located_regions.code_ranges.Goals as goal
use Rattle.place80.proofs.located_regions.code_ranges.Goals.{then-placed-eq-CODE+in_ok-push_filled, else-placed-eq-CODE}

pub range_at-requires : goal.range_at-requires
range_at-requires c = item_has
    (λ (p : Placed). p.length < 65536) c.args.segments.now c.loop-placed.placed-index _ c.requires c.loop-placed-test.true

pub loop-placed-preserved : goal.loop-placed-preserved
loop-placed-preserved c =
    let test : Placed → Bool = λ p. p.id == 1 in
    let first : Placed = record { id = 0; base = 0; length = 0 } in
    let rest : List Range = located_code (drop (c.loop-placed.placed-index + 1) c.args.segments.now) in
    elim c.if-placed-eq-CODE.branch [
      | then-placed-eq-CODE+in_ok-push_filled w ↦
          ap (λ (v : Vec Range). v.items ++ rest) w.ranges-is
          ∙ ap (λ l. l ++ rest) (w.in_ok-push_filled.ensures
          ∙ ap (λ r. c.loop-placed.ranges.items ++ filled (r ∷ [])) w.range_at.ensures)
          ∙ one_range_more test c.args.segments.now c.loop-placed.placed-index first c.loop-placed.ranges.items
          c.loop-placed-test.true (eq-eqb _ 1 w.if-placed-eq-CODE.true)
          ∙ c.loop-placed.invariant
      | else-placed-eq-CODE w ↦
          ap (λ (v : Vec Range). v.items ++ rest) w.ranges-is
          ∙ no_range_more test c.args.segments.now c.loop-placed.placed-index first c.loop-placed.ranges.items
          c.loop-placed-test.true (ne_eqb _ 1 w.if-placed-eq-CODE.false)
          ∙ c.loop-placed.invariant
    ]
