use Rattle.std.proofs.Common.{◌≡◌, ◌+◌, ◌<◌, ◌∙◌, ℕ, List, arith, sym, subst, take}
use Rattle.std.specs.Io.KnownBytes.{Appends}
use Rattle.loader80_trace.specs.declared.limits.Limits.{Limits}
use Rattle.loader80_board.proofs.StatesLemmas.{on_err}
use Rattle.loader80_board.proofs.TraceLemmas.{line_made, shown_all, shown_at_end, shown_at_limit, shown_front, shown_next, shown_part}
use Rattle.loader80_board.proofs.tracing.write_each.Goals as goal

pub returns-in_err-append_front-clause-front : goal.returns-in_err-append_front-clause-front
returns-in_err-append_front-clause-front g c = on_err c.from_residual.result _ (λ start come.
    shown_front c.args.rules.now.lines.now c.args.rules.now.regions.now start (record { steps = c.args.lines.steps; outputs = c.args.rules.now.outputs }) c.args.lines.span c.args.lines.form.publics.now c.args.lines.form.numbered c.loop-made.made c.loop-made.running _ _
    (c.loop-made.invariant.shown start come) (omega (arith, c.loop-made-test.true)) c.loop-made.invariant.within)

pub returns-in_err-end-clause-front : goal.returns-in_err-end-clause-front
returns-in_err-end-clause-front g c = on_err c.from_residual-in_err-end.result _ (λ start come.
    shown_front c.args.rules.now.lines.now c.args.rules.now.regions.now start (record { steps = c.args.lines.steps; outputs = c.args.rules.now.outputs }) c.args.lines.span c.args.lines.form.publics.now c.args.lines.form.numbered c.loop-made.made c.loop-made.running _ _
    (c.loop-made.invariant.shown start come) (omega (arith, c.loop-made-test.true)) c.loop-made.invariant.within)

pub returns-in_err-write_all-clause-front : goal.returns-in_err-write_all-clause-front
returns-in_err-write_all-clause-front g c = on_err c.from_residual-in_err-write_all.result _ (λ start come.
    let limits : Limits = record { steps = c.args.lines.steps; outputs = c.args.rules.now.outputs } in
    let shown = c.loop-made.invariant.shown start come in
    let line = c.deref.ensures.value ∙ line_made c.args.rules.now.lines.now c.args.rules.now.regions.now limits c.args.lines.form.publics.now c.args.lines.form.numbered (c.args.lines.span.from + c.loop-made.made) shown.come.state c.loop-made.running _ _ _ shown.come.now
    c.clear.ensures.items c.in_ok-append_front.ensures (c.in_ok-end.ensures.line shown.come.state shown.come.now) in
    let part = c.in_err-write_all.ensures.prefix in
    shown_part c.args.rules.now.lines.now c.args.rules.now.regions.now start limits c.args.lines.span c.args.lines.form.publics.now c.args.lines.form.numbered c.loop-made.made c.loop-made.running _ _ _ part.0 shown c.loop-made-test.true c.loop-made.invariant.within
    (subst (λ (l : List ℕ). Appends (g.K.Sink.written c.loop-made.out) (g.K.Sink.written c.write_all.new.sink) (take part.0 l)) line part.2))

pub returns-then-number-lines-clause-lines : goal.returns-then-number-lines-clause-lines
returns-then-number-lines-clause-lines g c = λ start come.
    let limits : Limits = record { steps = c.args.lines.steps; outputs = c.args.rules.now.outputs } in
    let shown = c.loop-made.invariant.shown start come in
    let line = c.deref.ensures.value ∙ line_made c.args.rules.now.lines.now c.args.rules.now.regions.now limits c.args.lines.form.publics.now c.args.lines.form.numbered (c.args.lines.span.from + c.loop-made.made) shown.come.state c.loop-made.running _ _ _ shown.come.now
    c.clear.ensures.items c.in_ok-append_front.ensures (c.in_ok-end.ensures.line shown.come.state shown.come.now) in
    let appended = subst (λ (l : List ℕ). Appends (g.K.Sink.written c.loop-made.out) (g.K.Sink.written c.write_all.new.sink) l) line c.in_ok-write_all.ensures.whole in
    shown_at_limit c.args.rules.now.lines.now c.args.rules.now.regions.now start limits c.args.lines.span c.args.lines.form.publics.now c.args.lines.form.numbered c.loop-made.made c.loop-made.running _ _ _ shown appended c.loop-made-test.true c.if-number-lines.true

pub returns-then-is_some-clause-lines : goal.returns-then-is_some-clause-lines
returns-then-is_some-clause-lines g c = λ start come.
    let limits : Limits = record { steps = c.args.lines.steps; outputs = c.args.rules.now.outputs } in
    let shown = c.loop-made.invariant.shown start come in
    let line = c.deref.ensures.value ∙ line_made c.args.rules.now.lines.now c.args.rules.now.regions.now limits c.args.lines.form.publics.now c.args.lines.form.numbered (c.args.lines.span.from + c.loop-made.made) shown.come.state c.loop-made.running _ _ _ shown.come.now
    c.clear.ensures.items c.in_ok-append_front.ensures (c.in_ok-end.ensures.line shown.come.state shown.come.now) in
    let appended = subst (λ (l : List ℕ). Appends (g.K.Sink.written c.loop-made.out) (g.K.Sink.written c.write_all.new.sink) l) line c.in_ok-write_all.ensures.whole in
    let inside : c.args.lines.span.from + c.loop-made.made < c.args.lines.steps = omega (arith, c.loop-made.invariant.within, c.if-number-lines.false) in
    shown_at_end c.args.rules.now.lines.now c.args.rules.now.regions.now start limits c.args.lines.span c.args.lines.form.publics.now c.args.lines.form.numbered c.loop-made.made c.loop-made.running c.show_step.new.running c.in_ok-end.end _ _ _ shown appended c.loop-made-test.true inside
    (sym c.is_some.ensures ∙ c.if-is_some.true) c.in_ok-end.ensures.turned

pub loop-made-preserved : goal.loop-made-preserved
loop-made-preserved g c = record {
  whole = c.in_ok-end.ensures.whole;
  within = omega (arith, c.loop-made.invariant.within, c.if-number-lines.false);
  unfailed = omega (arith, c.loop-made.invariant.unfailed, c.in_ok-write_all.ensures.count);
  shown = λ start come.
      let limits : Limits = record { steps = c.args.lines.steps; outputs = c.args.rules.now.outputs } in
      let shown = c.loop-made.invariant.shown start come in
      let line = c.deref.ensures.value ∙ line_made c.args.rules.now.lines.now c.args.rules.now.regions.now limits c.args.lines.form.publics.now c.args.lines.form.numbered (c.args.lines.span.from + c.loop-made.made) shown.come.state c.loop-made.running _ _ _ shown.come.now
      c.clear.ensures.items c.in_ok-append_front.ensures (c.in_ok-end.ensures.line shown.come.state shown.come.now) in
      let appended = subst (λ (l : List ℕ). Appends (g.K.Sink.written c.loop-made.out) (g.K.Sink.written c.write_all.new.sink) l) line c.in_ok-write_all.ensures.whole in
      shown_next c.args.rules.now.lines.now c.args.rules.now.regions.now start limits c.args.lines.span c.args.lines.form.publics.now c.args.lines.form.numbered c.loop-made.made c.loop-made.running c.show_step.new.running c.in_ok-end.end _ _ _ shown appended
      (sym c.is_some.ensures ∙ c.if-is_some.false) c.in_ok-end.ensures.turned;
}

pub returns-clause-lines : goal.returns-clause-lines
returns-clause-lines g c = λ start come.
    let all : c.loop-made.made ≡ c.args.lines.span.count = omega (arith, c.loop-made-test.false, c.loop-made.auto.made-end) in
    shown_all c.args.rules.now.lines.now c.args.rules.now.regions.now start (record { steps = c.args.lines.steps; outputs = c.args.rules.now.outputs }) c.args.lines.span c.args.lines.form.publics.now c.args.lines.form.numbered c.loop-made.made c.loop-made.running _ _
    (c.loop-made.invariant.shown start come) all c.loop-made.invariant.within
