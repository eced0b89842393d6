use Rattle.std.proofs.Common.{◌≡◌, ◌∙◌, ◌+◌, List, arith, ap, sym, subst, refl}
use Rattle.board80.specs.declared.line.Kind.{Kind}
use Rattle.board80.specs.declared.line.Kind.TheVariants.{Device}
use Rattle.board80.specs.declared.line.Line.{Line}
use Rattle.board80.specs.declared.line.Line.TheVariants.{Memory}
use Rattle.board80.specs.Board.{IsBoard, IsProper, gives_device}
use Rattle.machine80_board.specs.BoardRun.{IsMisplaced}
use Rattle.machine80_board.proofs.PlacingLemmas.{misplaced, proper_at}
use Rattle.machine80_board.proofs.placing.misplaced_device.Goals as goal

pub is_in_data-requires : goal.is_in_data-requires
is_in_data-requires c =
    let rules = subst IsBoard (sym c.lines-lines.ensures.lines) c.lines-lines.ensures.rules in
    (subst IsProper c.in-Memory-Device-default.is (proper_at c.lines-lines.result.now c.loop-index.index c.index-lines-index.result rules (omega (arith, c.loop-index-test.true)) c.index-lines-index.is)).0

pub returns-then-not-is_in_data-clause-found : goal.returns-then-not-is_in_data-clause-found
returns-then-not-is_in_data-clause-found c =
    let is : c.index-lines-index.result ≡ Memory Device c.in-Memory-Device-default.range = c.in-Memory-Device-default.is ∙ ap (λ (k : Kind). Memory k c.in-Memory-Device-default.range) (rw c.in-Memory-Device-default.is at c.in-Memory-Device-default.field-0-is) in
    let o = c.if-not-is_in_data.ensures.outside refl in
    subst (λ (l : List Line). IsMisplaced l c.args.regions.now (c.loop-index.index + 2)) c.lines-lines.ensures.lines
    (misplaced c.lines-lines.result.now c.args.regions.now c.loop-index.index c.index-lines-index.result o.0 (omega (arith, c.loop-index-test.true)) c.index-lines-index.is c.loop-index.invariant
    (ap (λ (l : Line). gives_device l o.0) is ∙ o.1.0) o.1.1)
