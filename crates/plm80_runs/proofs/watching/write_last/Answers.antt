use Rattle.plm80_runs.proofs.Names.{ℕ, List, sym, subst, Appends, Appends-nil, AppendsFront}
use Rattle.plm80_names.specs.FrontLaws.{no_front, on_err}
use Rattle.plm80_runs.proofs.RunLemmas.{last_span, no_lines}
use Rattle.plm80_runs.proofs.watching.write_last.Goals as goal

pub returns-then-watch-eq0-clause-written : goal.returns-then-watch-eq0-clause-written
returns-then-watch-eq0-clause-written g c =
    let old = g.K.Sink.written c.args.out.now in
    subst (λ (l : List ℕ). Appends old old l)
    (sym (no_lines c.args.inputs.now.pairs.items c.args.watch.limits c.args.watch.last c.args.names.now c.args.vouched.now c.args.ended.now c.if-watch-eq0.true))
    (Appends-nil old)

pub returns-clause-written : goal.returns-clause-written
returns-clause-written g c =
    subst (λ (l : List ℕ). Appends (g.K.Sink.written c.args.out.now) (g.K.Sink.written c.write_lines.new.out) l)
    (last_span c.args.inputs.now.pairs.items c.args.watch.limits c.args.watch.last c.args.names.now c.args.vouched.now c.args.ended.now
    c.last_of-span.result c.requires.within c.last_of-span.ensures.count c.last_of-span.ensures.last)
    (rw (c.publics.ensures, c.in_ok-again.ensures) at c.in_ok-write_lines.ensures.lines)

pub returns-in_err-again-clause-front : goal.returns-in_err-again-clause-front
returns-in_err-again-clause-front g c = on_err c.from_residual.result (no_front (g.K.Sink.written c.args.out.now) _)

pub returns-in_err-write_lines-clause-front : goal.returns-in_err-write_lines-clause-front
returns-in_err-write_lines-clause-front g c =
    on_err c.from_residual-in_err-write_lines.result
    (subst (λ (l : List ℕ). AppendsFront (g.K.Sink.written c.args.out.now) (g.K.Sink.written c.write_lines.new.out) l)
    (last_span c.args.inputs.now.pairs.items c.args.watch.limits c.args.watch.last c.args.names.now c.args.vouched.now c.args.ended.now
    c.last_of-span.result c.requires.within c.last_of-span.ensures.count c.last_of-span.ensures.last)
    (rw (c.publics.ensures, c.in_ok-again.ensures) at c.in_err-write_lines.ensures.front))
