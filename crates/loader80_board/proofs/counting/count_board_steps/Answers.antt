use Rattle.std.proofs.Common.{◌≡◌, List, ap, subst, sym}
use Rattle.image80.specs.Image.{Located}
use Rattle.image80.specs.Regions.{Areas}
use Rattle.board80.specs.declared.line.Line.{Line}
use Rattle.machine80_board.specs.BoardRun.{DevicesAreData, board_start}
use Rattle.machine80_board.specs.Keeping.{IsNow}
use Rattle.loader80_board.specs.BoardCounts.{CountsSteps}
use Rattle.loader80_board.specs.BoardStates.{EndsSo}
use Rattle.loader80_board.proofs.counting.count_board_steps.Goals as goal

pub count_each-requires-clause-rules : goal.count_each-requires-clause-rules
count_each-requires-clause-rules c = record {
  in_data = subst (λ (l : List Line). DevicesAreData l c.image.inside.regions) (sym c.in_ok-lines.ensures)
      (subst (λ (r : Areas). DevicesAreData c.args.board.now r) (sym (ap (λ (v : Located). v.regions) c.image.view_is)) c.requires);
  regions = c.stack.ensures.rules;
}

pub count_each-requires-clause-zeros : goal.count_each-requires-clause-zeros
count_each-requires-clause-zeros c = c.in_ok-steps.ensures.items_if_clones_equal (λ y e. e)

pub returns : goal.returns
returns c =
    let image : Located = c.args.image.now in
    let regions : c.image.inside.regions ≡ image.regions = ap (λ (v : Located). v.regions) c.image.view_is in
    let now : IsNow c.in_ok-lines.lines (board_start image) c.in_ok-running.running = c.in_ok-running.ensures.starts c.in_ok-lines.lines in
    let both = subst (λ (l : List Line). EndsSo l image.regions (board_start image) c.args.limits c.in_ok-ended.ended × CountsSteps l image.regions c.args.limits.outputs (board_start image) c.in_ok-ended.ended.steps c.count_each.new.counts.items) c.in_ok-lines.ensures
    (subst (λ (r : Areas). EndsSo c.in_ok-lines.lines r (board_start image) c.args.limits c.in_ok-ended.ended × CountsSteps c.in_ok-lines.lines r c.args.limits.outputs (board_start image) c.in_ok-ended.ended.steps c.count_each.new.counts.items) regions
    (c.in_ok-ended.ensures.counted (board_start image) now)) in
    record { ended = both.0; counted = both.1 }
