use Rattle.std.proofs.Common.{◌≡◌, ◌∙◌, [], ap, subst}
use Rattle.std.specs.Prelude.{Some}
use Rattle.image80.specs.Image.{Located}
use Rattle.image80.specs.Regions.{Areas}
use Rattle.machine80.specs.Ports.{lists_of}
use Rattle.machine80.specs.Step.{Machine, with_ports}
use Rattle.machine80.specs.World.{World, world_at_start}
use Rattle.machine80_quick.specs.Quick.{StaysRight}
use Rattle.loader80_trace.specs.Counts.{CountsSteps}
use Rattle.loader80_trace.specs.Finished.{HasReached}
use Rattle.loader80_trace.specs.Traces.{EndsSo}
use Rattle.loader80_trace.proofs.CountLemmas.{goes_from_start}
use Rattle.loader80_trace.proofs.counting.count_steps.Goals as goal

pub count_each-requires-clause-open : goal.count_each-requires-clause-open
count_each-requires-clause-open c = (c.in_ok-at.ensures.goes_on (goes_from_start _ _ _ _ _ c.in_ok-at.at.ended.end c.in_ok-at.ensures.run)).0

pub count_each-requires-clause-zeros : goal.count_each-requires-clause-zeros
count_each-requires-clause-zeros c = c.in_ok-steps.ensures.items_if_clones_equal (λ y e. e)

pub returns-clause-run : goal.returns-clause-run
returns-clause-run c =
    let start : World = world_at_start c.args.vouched.now.image (lists_of c.args.inputs.pairs.items) [] in
    let regions : c.image.inside.regions ≡ c.args.vouched.now.image.regions = ap (λ (v : Located). v.regions) (c.image.view_is ∙ c.image-image.ensures.image) in
    let m : Machine = with_ports c.in_ok-at.at.ended.cpu c.in_ok-at.at.bus c.in_ok-at.at.ports in
    let stays : StaysRight c.args.vouched.now.image.regions start = c.images_that_never_go_wrong_stay_right.ensures c.args.vouched.now.image c.args.vouched.now.stack_bytes _ [] c.image-image.ensures.vouched.never_goes_wrong in
    let none = goes_from_start _ _ _ _ _ c.in_ok-at.at.ended.end c.in_ok-at.ensures.run in
    let counted = subst (λ (r : Areas). (w : World) → StaysRight r w → HasReached r c.args.limits.outputs w 0 m → EndsSo r (Some c.args.limits.outputs) w c.args.limits.steps c.in_ok-ended.ended × CountsSteps r (Some c.args.limits.outputs) w c.in_ok-ended.ended.steps c.count_each.new.counts.items) regions
    c.in_ok-ended.ensures.counted in
    (counted start stays (c.in_ok-at.ensures.goes_on none).1).0

pub returns-clause-counts : goal.returns-clause-counts
returns-clause-counts c =
    let start : World = world_at_start c.args.vouched.now.image (lists_of c.args.inputs.pairs.items) [] in
    let regions : c.image.inside.regions ≡ c.args.vouched.now.image.regions = ap (λ (v : Located). v.regions) (c.image.view_is ∙ c.image-image.ensures.image) in
    let m : Machine = with_ports c.in_ok-at.at.ended.cpu c.in_ok-at.at.bus c.in_ok-at.at.ports in
    let stays : StaysRight c.args.vouched.now.image.regions start = c.images_that_never_go_wrong_stay_right.ensures c.args.vouched.now.image c.args.vouched.now.stack_bytes _ [] c.image-image.ensures.vouched.never_goes_wrong in
    let none = goes_from_start _ _ _ _ _ c.in_ok-at.at.ended.end c.in_ok-at.ensures.run in
    let counted = subst (λ (r : Areas). (w : World) → StaysRight r w → HasReached r c.args.limits.outputs w 0 m → EndsSo r (Some c.args.limits.outputs) w c.args.limits.steps c.in_ok-ended.ended × CountsSteps r (Some c.args.limits.outputs) w c.in_ok-ended.ended.steps c.count_each.new.counts.items) regions
    c.in_ok-ended.ensures.counted in
    (counted start stays (c.in_ok-at.ensures.goes_on none).1).1
