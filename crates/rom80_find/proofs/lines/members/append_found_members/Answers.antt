use Rattle.std.proofs.Common.{◌∙◌, sym, arith}
use Rattle.std.specs.Prelude.{◌≡◌, ◌+◌, if◌then◌else◌}
use Rattle.rom80_find.specs.Found.{has_place}
use Rattle.rom80_find.proofs.FindingLemmas.{found_more, counted, not_counted}
use Rattle.rom80_find.proofs.lines.members.append_found_members.Goals as goal
use Rattle.rom80_find.proofs.lines.members.append_found_members.Goals.{then-not-has_place, else-not-has_place}

pub loop-source-preserved : goal.loop-source-preserved
loop-source-preserved c =
    let finding = c.in_ok-finding.finding in
    let more = λ (next_is : c.if-not-has_place.missing ≡ c.loop-source.missing + (if has_place finding then 0 else 1)). found_more c.args.dump.now c.args.members.now c.loop-source.source-index c.source-item.result
    c.loop-source.missing c.if-not-has_place.missing finding c.args.text.now.items c.loop-source.text.items c.append_module_places.new.text.items
    c.loop-source-test.true c.source-item.is c.loop-source.invariant.found c.in_ok-finding.ensures next_is in
    elim c.if-not-has_place.branch [
      | then-not-has_place w ↦ record {
        bound = omega (arith, c.loop-source.invariant.bound, w.missing-is);
        found = more (counted (has_place finding) c.loop-source.missing c.if-not-has_place.missing (sym c.has_place.ensures ∙ w.if-not-has_place.true) w.missing-is);
      }
      | else-not-has_place w ↦ record {
        bound = omega (arith, c.loop-source.invariant.bound, w.missing-is);
        found = more (not_counted (has_place finding) c.loop-source.missing c.if-not-has_place.missing (sym c.has_place.ensures ∙ w.if-not-has_place.false) w.missing-is);
      }
    ]
