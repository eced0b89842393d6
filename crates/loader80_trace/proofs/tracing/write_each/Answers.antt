use Rattle.std.proofs.Common.{◌≡◌, ◌+◌, ◌<◌, ◌∙◌, ℕ, List, arith, sym, subst, take}
use Rattle.std.specs.Prelude.{Option}
use Rattle.std.specs.Io.KnownBytes.{Appends}
use Rattle.machine80.specs.declared.end.End.{End}
use Rattle.machine80.specs.Step.{Machine, PortsAfter, with_ports}
use Rattle.loader80_trace.proofs.StepLemmas.{right_there, still_open}
use Rattle.loader80_trace.proofs.TraceLemmas.{came_to_end, came_to_limit, is_none, line_made, on_err, ran_out, shown_all, shown_at_end, shown_at_limit, shown_next, shown_part, wrote_front}
use Rattle.loader80_trace.proofs.tracing.write_each.Goals as goal

pub returns-in_err-append_front-clause-front : goal.returns-in_err-append_front-clause-front
returns-in_err-append_front-clause-front g c =
    on_err c.from_residual.result _ (λ start stays reached. wrote_front _ _ _ _ (c.loop-made.invariant.shown start stays reached).wrote)

pub returns-in_err-end-clause-front : goal.returns-in_err-end-clause-front
returns-in_err-end-clause-front g c =
    on_err c.from_residual-in_err-end.result _ (λ start stays reached. wrote_front _ _ _ _ (c.loop-made.invariant.shown start stays reached).wrote)

pub returns-in_err-write_all-clause-front : goal.returns-in_err-write_all-clause-front
returns-in_err-write_all-clause-front g c = on_err c.from_residual-in_err-write_all.result _ (λ start stays reached.
    let m : Machine = with_ports c.loop-made.cpu c.loop-made.bus c.loop-made.ports in
    let shown = c.loop-made.invariant.shown start stays reached in
    let right = right_there c.args.rules.now.regions.now c.args.rules.now.outputs start (c.args.lines.span.from + c.loop-made.made) m stays shown.at in
    let line = c.deref.ensures.value ∙ line_made _ _ _ _ _ c.clear.ensures.items c.in_ok-append_front.ensures (c.in_ok-end.ensures.line right) in
    let part = c.in_err-write_all.ensures.prefix in
    shown_part c.args.rules.now.regions.now c.args.rules.now.outputs start c.args.lines.form.publics.now c.args.lines.form.numbered c.args.lines.steps c.args.lines.span.from c.args.lines.span.count c.loop-made.made m _ _ _ part.0 shown c.loop-made-test.true c.loop-made.invariant.within
    (subst (λ (l : List ℕ). Appends (g.K.Sink.written c.loop-made.out) (g.K.Sink.written c.write_all.new.sink) (take part.0 l)) line part.2))

pub returns-then-number-lines-clause-lines : goal.returns-then-number-lines-clause-lines
returns-then-number-lines-clause-lines g c = λ start stays reached.
    let m : Machine = with_ports c.loop-made.cpu c.loop-made.bus c.loop-made.ports in
    let shown = c.loop-made.invariant.shown start stays reached in
    let right = right_there c.args.rules.now.regions.now c.args.rules.now.outputs start (c.args.lines.span.from + c.loop-made.made) m stays shown.at in
    let line = c.deref.ensures.value ∙ line_made _ _ _ _ _ c.clear.ensures.items c.in_ok-append_front.ensures (c.in_ok-end.ensures.line right) in
    let appended = subst (λ (l : List ℕ). Appends (g.K.Sink.written c.loop-made.out) (g.K.Sink.written c.write_all.new.sink) l) line c.in_ok-write_all.ensures.whole in
    shown_at_limit c.args.rules.now.regions.now c.args.rules.now.outputs start c.args.lines.form.publics.now c.args.lines.form.numbered c.args.lines.steps c.args.lines.span.from c.args.lines.span.count c.loop-made.made m _ _ _ shown c.loop-made-test.true c.loop-made.invariant.within appended c.if-number-lines.true

pub returns-then-number-lines-clause-traced : goal.returns-then-number-lines-clause-traced
returns-then-number-lines-clause-traced g c = λ start stays reached.
    let m : Machine = with_ports c.loop-made.cpu c.loop-made.bus c.loop-made.ports in
    let shown = c.loop-made.invariant.shown start stays reached in
    came_to_limit c.args.rules.now.regions.now c.args.rules.now.outputs start c.args.lines.steps c.args.lines.span.from c.args.lines.span.count c.loop-made.made m shown.at c.loop-made-test.true c.if-number-lines.true

pub returns-then-is_some-clause-lines : goal.returns-then-is_some-clause-lines
returns-then-is_some-clause-lines g c = λ start stays reached.
    let m : Machine = with_ports c.loop-made.cpu c.loop-made.bus c.loop-made.ports in
    let shown = c.loop-made.invariant.shown start stays reached in
    let right = right_there c.args.rules.now.regions.now c.args.rules.now.outputs start (c.args.lines.span.from + c.loop-made.made) m stays shown.at in
    let line = c.deref.ensures.value ∙ line_made _ _ _ _ _ c.clear.ensures.items c.in_ok-append_front.ensures (c.in_ok-end.ensures.line right) in
    let appended = subst (λ (l : List ℕ). Appends (g.K.Sink.written c.loop-made.out) (g.K.Sink.written c.write_all.new.sink) l) line c.in_ok-write_all.ensures.whole in
    let step = c.in_ok-end.ensures.step right in
    shown_at_end c.args.rules.now.regions.now c.args.rules.now.outputs start c.args.lines.form.publics.now c.args.lines.form.numbered c.args.lines.steps c.args.lines.span.from c.args.lines.span.count c.loop-made.made m _ c.in_ok-end.end _ _ _ shown c.loop-made-test.true c.loop-made.invariant.within appended step (sym c.is_some.ensures ∙ c.if-is_some.true)

pub returns-then-is_some-clause-traced : goal.returns-then-is_some-clause-traced
returns-then-is_some-clause-traced g c = λ start stays reached.
    let m : Machine = with_ports c.loop-made.cpu c.loop-made.bus c.loop-made.ports in
    let shown = c.loop-made.invariant.shown start stays reached in
    let right = right_there c.args.rules.now.regions.now c.args.rules.now.outputs start (c.args.lines.span.from + c.loop-made.made) m stays shown.at in
    let step = c.in_ok-end.ensures.step right in
    let inside : c.args.lines.span.from + c.loop-made.made < c.args.lines.steps = omega (arith, c.loop-made.invariant.within, c.if-number-lines.false) in
    came_to_end c.args.rules.now.regions.now c.args.rules.now.outputs start c.args.lines.steps c.args.lines.span.from c.args.lines.span.count c.loop-made.made m _ c.in_ok-end.end shown.at c.loop-made-test.true inside step (sym c.is_some.ensures ∙ c.if-is_some.true)

pub loop-made-preserved : goal.loop-made-preserved
loop-made-preserved g c =
    let none = is_none c.in_ok-end.end (sym c.is_some.ensures ∙ c.if-is_some.false) in
    record {
      opened = still_open c.args.rules.now.outputs _ _ c.loop-made.invariant.opened (subst (λ (ending : Option End). PortsAfter ending c.loop-made.ports c.show_step.new.ports) none c.in_ok-end.ensures.ports);
      within = omega (arith, c.loop-made.invariant.within, c.if-number-lines.false);
      unfailed = omega (arith, c.loop-made.invariant.unfailed, c.in_ok-write_all.ensures.count);
      shown = λ start stays reached.
          let m : Machine = with_ports c.loop-made.cpu c.loop-made.bus c.loop-made.ports in
          let shown = c.loop-made.invariant.shown start stays reached in
          let right = right_there c.args.rules.now.regions.now c.args.rules.now.outputs start (c.args.lines.span.from + c.loop-made.made) m stays shown.at in
          let line = c.deref.ensures.value ∙ line_made _ _ _ _ _ c.clear.ensures.items c.in_ok-append_front.ensures (c.in_ok-end.ensures.line right) in
          let appended = subst (λ (l : List ℕ). Appends (g.K.Sink.written c.loop-made.out) (g.K.Sink.written c.write_all.new.sink) l) line c.in_ok-write_all.ensures.whole in
          let step = c.in_ok-end.ensures.step right in
          shown_next c.args.rules.now.regions.now c.args.rules.now.outputs start c.args.lines.form.publics.now c.args.lines.form.numbered c.args.lines.steps c.args.lines.span.from c.args.lines.span.count c.loop-made.made m _ c.in_ok-end.end _ _ _ shown c.loop-made-test.true c.loop-made.invariant.within appended step none;
    }

pub returns-clause-lines : goal.returns-clause-lines
returns-clause-lines g c = λ start stays reached.
    let m : Machine = with_ports c.loop-made.cpu c.loop-made.bus c.loop-made.ports in
    let shown = c.loop-made.invariant.shown start stays reached in
    shown_all c.args.rules.now.regions.now c.args.rules.now.outputs start c.args.lines.form.publics.now c.args.lines.form.numbered c.args.lines.steps c.args.lines.span.from c.args.lines.span.count c.loop-made.made m _ _ shown c.loop-made-test.false

pub returns-clause-traced : goal.returns-clause-traced
returns-clause-traced g c = λ start stays reached.
    let m : Machine = with_ports c.loop-made.cpu c.loop-made.bus c.loop-made.ports in
    let shown = c.loop-made.invariant.shown start stays reached in
    let all : c.loop-made.made ≡ c.args.lines.span.count = omega (arith, c.loop-made-test.false, c.loop-made.auto.made-end) in
    ran_out c.args.rules.now.regions.now c.args.rules.now.outputs start c.args.lines.steps c.args.lines.span.from c.args.lines.span.count c.loop-made.made m shown.at all c.loop-made.invariant.within
