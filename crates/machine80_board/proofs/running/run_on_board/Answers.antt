use Rattle.std.proofs.Common.{List, subst}
use Rattle.board80.specs.declared.line.Line.{Line}
use Rattle.image80.specs.Image.{Located}
use Rattle.machine80_board.specs.BoardRun.{board_start}
use Rattle.machine80_board.specs.Keeping.{EndsFrom}
use Rattle.machine80_board.proofs.running.run_on_board.Goals as goal

pub returns : goal.returns
returns c =
    let started = c.in_ok-stopped.ensures (board_start c.args.image.now) (c.in_ok-running.ensures.starts c.in_ok-lines.lines) in
    let at_lines = subst (λ (l : List Line). EndsFrom l c.image.inside.regions c.args.outputs (board_start c.args.image.now) c.args.steps c.in_ok-stopped.stopped c.advance.new.running) c.in_ok-lines.ensures started in
    let e = subst (λ (i : Located). EndsFrom c.args.board.now i.regions c.args.outputs (board_start c.args.image.now) c.args.steps c.in_ok-stopped.stopped c.advance.new.running) c.image.view_is at_lines in
    record { last = e.last; is = e.is; cpu = e.cpu; outputs = e.outputs }
