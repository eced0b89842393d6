use Rattle.std.proofs.Common.{◌+◌, ◌<◌, ◌≤◌, ◌∙◌, ℕ, List, ap, arith, get_or, length, length-set, subst, sym}
use Rattle.std.proofs.lemmas.List.{length-replicate}
use Rattle.loader80_board.specs.BoardCounts.{CountsSteps}
use Rattle.loader80_board.specs.BoardStates.{EndsSo}
use Rattle.loader80_board.proofs.CountLemmas.{Counted, counted_all, counted_end, counted_first, counted_next, none_above, zero_counts}
use Rattle.loader80_board.proofs.counting.count_each.Goals as goal

pub loop-made-init : goal.loop-made-init
loop-made-init c = record {
  are_whole = c.requires.whole;
  whole = ap length c.requires.zeros ∙ length-replicate {A = ℕ} 65536 0;
  below = zero_counts c.args.counts.now.items c.requires.zeros;
  counted = λ start now. counted_first c.args.rules.now.lines.now c.args.rules.now.regions.now c.args.rules.now.outputs start c.args.running.now c.args.counts.now.items now c.requires.zeros;
}

pub count_at-requires-clause-countable : goal.count_at-requires-clause-countable
count_at-requires-clause-countable c = omega (arith, c.loop-made.invariant.below c.loop-made.running.cpu.pc, c.ranges.steps.fits, c.loop-made-test.true)

pub returns-then-is_some : goal.returns-then-is_some
returns-then-is_some c = record {
  counted = λ start now.
      subst (λ (l : List ℕ). EndsSo c.args.rules.now.lines.now c.args.rules.now.regions.now start (record { steps = c.args.steps; outputs = c.args.rules.now.outputs }) (record { end = c.in_ok-end.end; steps = c.loop-made.made + 1; at = c.step_on_board.new.running.cpu.pc })
      × CountsSteps c.args.rules.now.lines.now c.args.rules.now.regions.now c.args.rules.now.outputs start (c.loop-made.made + 1) l) (sym c.count_at.ensures.counted)
      (counted_end c.args.rules.now.lines.now c.args.rules.now.regions.now c.args.rules.now.outputs c.args.steps start c.loop-made.made c.loop-made.running c.step_on_board.new.running c.in_ok-end.end c.loop-made.counts.items
      (c.loop-made.invariant.counted start now) c.count_at.ensures.in_memory c.loop-made-test.true (sym c.is_some.ensures ∙ c.if-is_some.true) c.in_ok-end.ensures.turned);
}

pub loop-made-preserved : goal.loop-made-preserved
loop-made-preserved c =
    let same = sym c.count_at.ensures.counted in
    let inside : c.loop-made.running.cpu.pc < 65536 = c.count_at.ensures.in_memory in
    let within : c.loop-made.running.cpu.pc < length c.loop-made.counts.items = omega (arith, c.loop-made.invariant.whole, inside) in
    record {
      are_whole = c.in_ok-end.ensures.whole;
      whole = ap length c.count_at.ensures.counted ∙ length-set c.loop-made.counts.items _ _ ∙ c.loop-made.invariant.whole;
      below = λ address. subst (λ (l : List ℕ). get_or l address 0 ≤ c.loop-made.made + 1) same (none_above c.loop-made.counts.items c.loop-made.running.cpu.pc c.loop-made.made c.loop-made.invariant.below within address);
      counted = λ start now.
          subst (λ (l : List ℕ). Counted c.args.rules.now.lines.now c.args.rules.now.regions.now c.args.rules.now.outputs start (c.loop-made.made + 1) c.step_on_board.new.running l) same
          (counted_next c.args.rules.now.lines.now c.args.rules.now.regions.now c.args.rules.now.outputs start c.loop-made.made c.loop-made.running c.step_on_board.new.running c.in_ok-end.end c.loop-made.counts.items
          (c.loop-made.invariant.counted start now) inside (sym c.is_some.ensures ∙ c.if-is_some.false) c.in_ok-end.ensures.turned);
    }

pub returns : goal.returns
returns c = record {
  counted = λ start now.
      counted_all c.args.rules.now.lines.now c.args.rules.now.regions.now c.args.rules.now.outputs c.args.steps start c.loop-made.made c.loop-made.running c.loop-made.counts.items (c.loop-made.invariant.counted start now)
      (omega (arith, c.loop-made-test.false, c.loop-made.auto.made-end));
}
