use Rattle.std.proofs.Common.{◌≡◌, ◌∙◌, ℕ, [], ap, arith, inl, inr, refl, subst, sym}
use Rattle.std.specs.Prelude.{IfOk, OnErr, OnOk, Option, Some, is_some, true}
use Rattle.std.specs.Io.KnownBytes.{Appends}
use Rattle.image80.specs.Image.{Located}
use Rattle.image80.specs.Regions.{Areas}
use Rattle.machine80.specs.Ports.{lists_of}
use Rattle.machine80.specs.Step.{Machine, with_ports}
use Rattle.machine80.specs.World.{World, world_at_start}
use Rattle.machine80_quick.specs.Quick.{StaysRight}
use Rattle.loader80.specs.declared.running.Ended.{Ended}
use Rattle.loader80_trace.specs.Finished.{HasReached}
use Rattle.loader80_trace.specs.Traces.{AppendsFront, IsTraced}
use Rattle.loader80_trace.proofs.TraceLemmas.{appends_none, came_before, err_then, if_ok_then, is_none, no_line_after, no_line_within, ok_then, on_err, whole_of, wrote_front, wrote_none}
use Rattle.loader80_trace.proofs.tracing.write_lines.Goals as goal
use Rattle.loader80_trace.proofs.tracing.write_lines.Goals.{then-is_some-via-then-is_some, then-is_some-via-else-is_some+then-limits-span}

pub returns-then-is_some-clause-lines : goal.returns-then-is_some-clause-lines
returns-then-is_some-clause-lines g c =
    let start : World = world_at_start c.args.vouched.now.image (lists_of c.args.inputs.pairs.items) [] in
    elim c.then-is_some.branch [
      | then-is_some-via-then-is_some w ↦
          let some : is_some c.in_ok-at.at.ended.end ≡ true = sym c.is_some.ensures ∙ w.if-is_some.true in
          appends_none _ _ (no_line_after c.args.vouched.now.image.regions c.args.limits.outputs start c.args.form.publics.now c.args.form.numbered c.min.result c.args.limits.steps c.args.span.from c.args.span.count c.in_ok-at.at.ended.steps _ c.in_ok-at.at.ended.end c.in_ok-at.ensures.run c.min.ensures some)
      | then-is_some-via-else-is_some+then-limits-span w ↦ appends_none _ _ (no_line_within c.args.vouched.now.image.regions c.args.limits.outputs start c.args.form.publics.now c.args.form.numbered c.args.limits.steps c.args.span.from c.args.span.count w.if-limits-span.true)
    ]

pub returns-then-is_some-clause-traced : goal.returns-then-is_some-clause-traced
returns-then-is_some-clause-traced g c =
    let start : World = world_at_start c.args.vouched.now.image (lists_of c.args.inputs.pairs.items) [] in
    elim c.then-is_some.branch [
      | then-is_some-via-then-is_some w ↦
          let some : is_some c.in_ok-at.at.ended.end ≡ true = sym c.is_some.ensures ∙ w.if-is_some.true in
          came_before c.args.vouched.now.image.regions c.args.limits.outputs start c.min.result c.args.limits.steps c.args.span.from c.args.span.count c.in_ok-at.at.ended _ c.in_ok-at.ensures.run refl c.min.ensures (inl some)
      | then-is_some-via-else-is_some+then-limits-span w ↦ came_before c.args.vouched.now.image.regions c.args.limits.outputs start c.min.result c.args.limits.steps c.args.span.from c.args.span.count c.in_ok-at.at.ended _ c.in_ok-at.ensures.run refl c.min.ensures (inr w.if-limits-span.true)
    ]

pub returns-in_err-map-clause-front : goal.returns-in_err-map-clause-front
returns-in_err-map-clause-front g c = on_err c.from_residual-in_err-map.result _ (wrote_front _ _ _ _ (wrote_none _ _))

pub returns-clause-lines : goal.returns-clause-lines
returns-clause-lines g c =
    let start : World = world_at_start c.args.vouched.now.image (lists_of c.args.inputs.pairs.items) [] in
    let regions : c.image.inside.regions ≡ c.args.vouched.now.image.regions = ap (λ (v : Located). v.regions) (c.image.view_is ∙ c.image-image.ensures.image) in
    let m : Machine = with_ports c.in_ok-at.at.ended.cpu c.in_ok-at.at.bus c.in_ok-at.at.ports in
    let stays : StaysRight c.args.vouched.now.image.regions start = c.images_that_never_go_wrong_stay_right.ensures c.args.vouched.now.image c.args.vouched.now.stack_bytes _ [] c.image-image.ensures.vouched.never_goes_wrong in
    let none = is_none c.in_ok-at.at.ended.end (sym c.is_some.ensures ∙ c.if-is_some.false) in
    let first : c.min.result ≡ c.args.span.from = omega (arith, c.min.ensures, c.if-limits-span.false) in
    let reached : HasReached c.args.vouched.now.image.regions c.args.limits.outputs start c.args.span.from m = subst (λ (n : ℕ). HasReached c.args.vouched.now.image.regions c.args.limits.outputs start n m) first (c.in_ok-at.ensures.goes_on none).1 in
    ok_then c.write_each.result _ _ (λ f. f start stays reached)
    (subst (λ (r : Areas). OnOk c.write_each.result ((start : World) → StaysRight r start → HasReached r c.args.limits.outputs start c.args.span.from m → Appends (g.K.Sink.written c.args.out.now) (g.K.Sink.written c.write_each.new.out) (whole_of r c.args.limits.outputs start c.args.form.publics.now c.args.form.numbered c.args.limits.steps c.args.span.from c.args.span.count))) regions c.write_each.ensures.lines)

pub returns-clause-traced : goal.returns-clause-traced
returns-clause-traced g c =
    let start : World = world_at_start c.args.vouched.now.image (lists_of c.args.inputs.pairs.items) [] in
    let regions : c.image.inside.regions ≡ c.args.vouched.now.image.regions = ap (λ (v : Located). v.regions) (c.image.view_is ∙ c.image-image.ensures.image) in
    let m : Machine = with_ports c.in_ok-at.at.ended.cpu c.in_ok-at.at.bus c.in_ok-at.at.ports in
    let stays : StaysRight c.args.vouched.now.image.regions start = c.images_that_never_go_wrong_stay_right.ensures c.args.vouched.now.image c.args.vouched.now.stack_bytes _ [] c.image-image.ensures.vouched.never_goes_wrong in
    let none = is_none c.in_ok-at.at.ended.end (sym c.is_some.ensures ∙ c.if-is_some.false) in
    let first : c.min.result ≡ c.args.span.from = omega (arith, c.min.ensures, c.if-limits-span.false) in
    let reached : HasReached c.args.vouched.now.image.regions c.args.limits.outputs start c.args.span.from m = subst (λ (n : ℕ). HasReached c.args.vouched.now.image.regions c.args.limits.outputs start n m) first (c.in_ok-at.ensures.goes_on none).1 in
    if_ok_then c.write_each.result _ _ (λ x f. f start stays reached)
    (subst (λ (r : Areas). IfOk c.write_each.result (λ (traced : Option Ended). (start : World) → StaysRight r start → HasReached r c.args.limits.outputs start c.args.span.from m → IsTraced r (Some c.args.limits.outputs) start c.args.limits.steps c.args.span.from c.args.span.count traced)) regions c.write_each.ensures.traced)

pub returns-clause-front : goal.returns-clause-front
returns-clause-front g c =
    let start : World = world_at_start c.args.vouched.now.image (lists_of c.args.inputs.pairs.items) [] in
    let regions : c.image.inside.regions ≡ c.args.vouched.now.image.regions = ap (λ (v : Located). v.regions) (c.image.view_is ∙ c.image-image.ensures.image) in
    let m : Machine = with_ports c.in_ok-at.at.ended.cpu c.in_ok-at.at.bus c.in_ok-at.at.ports in
    let stays : StaysRight c.args.vouched.now.image.regions start = c.images_that_never_go_wrong_stay_right.ensures c.args.vouched.now.image c.args.vouched.now.stack_bytes _ [] c.image-image.ensures.vouched.never_goes_wrong in
    let none = is_none c.in_ok-at.at.ended.end (sym c.is_some.ensures ∙ c.if-is_some.false) in
    let first : c.min.result ≡ c.args.span.from = omega (arith, c.min.ensures, c.if-limits-span.false) in
    let reached : HasReached c.args.vouched.now.image.regions c.args.limits.outputs start c.args.span.from m = subst (λ (n : ℕ). HasReached c.args.vouched.now.image.regions c.args.limits.outputs start n m) first (c.in_ok-at.ensures.goes_on none).1 in
    err_then c.write_each.result _ _ (λ f. f start stays reached)
    (subst (λ (r : Areas). OnErr c.write_each.result ((start : World) → StaysRight r start → HasReached r c.args.limits.outputs start c.args.span.from m → AppendsFront (g.K.Sink.written c.args.out.now) (g.K.Sink.written c.write_each.new.out) (whole_of r c.args.limits.outputs start c.args.form.publics.now c.args.form.numbered c.args.limits.steps c.args.span.from c.args.span.count))) regions c.write_each.ensures.front)
