use Rattle.std.proofs.Common.{◌≡◌, List, ap, subst, sym}
use Rattle.image80.specs.Image.{Located}
use Rattle.image80.specs.Regions.{Areas}
use Rattle.board80.specs.declared.line.Line.{Line}
use Rattle.machine80_board.specs.BoardRun.{DevicesAreData, board_start}
use Rattle.machine80_board.specs.Keeping.{IsNow}
use Rattle.loader80_board.specs.BoardLines.{WritesFront, WritesLines}
use Rattle.loader80_board.proofs.StatesLemmas.{err_then, ok_then}
use Rattle.loader80_board.proofs.tracing.write_board_lines.Goals as goal

pub write_span-requires-clause-rules : goal.write_span-requires-clause-rules
write_span-requires-clause-rules g c = record {
  in_data = subst (λ (l : List Line). DevicesAreData l c.image.inside.regions) (sym c.in_ok-lines.ensures)
      (subst (λ (r : Areas). DevicesAreData c.args.board.now r) (sym (ap (λ (v : Located). v.regions) c.image.view_is)) c.requires.devices);
  regions = c.stack.ensures.rules;
}

pub returns-clause-lines : goal.returns-clause-lines
returns-clause-lines g c =
    let image : Located = c.args.image.now in
    let regions : c.image.inside.regions ≡ image.regions = ap (λ (v : Located). v.regions) c.image.view_is in
    let now : IsNow c.in_ok-lines.lines (board_start image) c.in_ok-running.running = c.in_ok-running.ensures.starts c.in_ok-lines.lines in
    ok_then c.write_span.result _ _
    (λ ended lines.
    subst (λ (l : List Line). WritesLines l image.regions (board_start image) c.args.limits c.args.span c.args.form.publics.now c.args.form.numbered ended (g.K.Sink.written c.args.out.now) (g.K.Sink.written c.write_span.new.out)) c.in_ok-lines.ensures
    (subst (λ (r : Areas). WritesLines c.in_ok-lines.lines r (board_start image) c.args.limits c.args.span c.args.form.publics.now c.args.form.numbered ended (g.K.Sink.written c.args.out.now) (g.K.Sink.written c.write_span.new.out)) regions
    (lines (board_start image) now)))
    c.write_span.ensures.lines

pub returns-clause-front : goal.returns-clause-front
returns-clause-front g c =
    let image : Located = c.args.image.now in
    let regions : c.image.inside.regions ≡ image.regions = ap (λ (v : Located). v.regions) c.image.view_is in
    let now : IsNow c.in_ok-lines.lines (board_start image) c.in_ok-running.running = c.in_ok-running.ensures.starts c.in_ok-lines.lines in
    err_then c.write_span.result _ _
    (λ front.
    subst (λ (l : List Line). WritesFront l image.regions (board_start image) c.args.limits c.args.span c.args.form.publics.now c.args.form.numbered (g.K.Sink.written c.args.out.now) (g.K.Sink.written c.write_span.new.out)) c.in_ok-lines.ensures
    (subst (λ (r : Areas). WritesFront c.in_ok-lines.lines r (board_start image) c.args.limits c.args.span c.args.form.publics.now c.args.form.numbered (g.K.Sink.written c.args.out.now) (g.K.Sink.written c.write_span.new.out)) regions
    (front (board_start image) now)))
    c.write_span.ensures.front
