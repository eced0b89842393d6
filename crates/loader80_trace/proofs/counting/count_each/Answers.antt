use Rattle.std.proofs.Common.{◌+◌, ◌<◌, ◌∙◌, ℕ, List, ap, arith, get_or, length, length-set, ◌≤◌, subst, sym}
use Rattle.std.specs.Prelude.{Option, Some}
use Rattle.std.proofs.lemmas.List.{length-replicate}
use Rattle.machine80.specs.declared.end.End.{End}
use Rattle.machine80.specs.Step.{Machine, PortsAfter, with_ports}
use Rattle.loader80_trace.specs.Counts.{CountsSteps}
use Rattle.loader80_trace.specs.Traces.{EndsSo}
use Rattle.loader80_trace.proofs.StepLemmas.{right_there, still_open}
use Rattle.loader80_trace.proofs.TraceLemmas.{is_none}
use Rattle.loader80_trace.proofs.CountLemmas.{Counted, counted_all, counted_end, counted_first, counted_next, none_above, zero_counts}
use Rattle.loader80_trace.proofs.counting.count_each.Goals as goal

pub loop-made-init : goal.loop-made-init
loop-made-init c = record {
  opened = c.requires.open;
  whole = ap length c.requires.zeros ∙ length-replicate {A = ℕ} 65536 0;
  below = zero_counts c.args.counts.now.items c.requires.zeros;
  counted = λ start stays reached. counted_first c.args.rules.now.regions.now c.args.rules.now.outputs start _ c.args.counts.now.items reached c.requires.zeros;
}

pub count_at-requires-clause-countable : goal.count_at-requires-clause-countable
count_at-requires-clause-countable c = omega (arith, c.loop-made.invariant.below c.loop-made.cpu.pc, c.ranges.steps.fits, c.loop-made-test.true)

pub returns-then-is_some : goal.returns-then-is_some
returns-then-is_some c = record {
  counted = λ start stays reached.
      let m : Machine = with_ports c.loop-made.cpu c.loop-made.bus c.loop-made.ports in
      let counted = c.loop-made.invariant.counted start stays reached in
      let right = right_there c.args.rules.now.regions.now c.args.rules.now.outputs start c.loop-made.made m stays counted.at in
      let step = c.in_ok-end.ensures.step right in
      let same = sym c.count_at.ensures.counted in
      let inside : c.loop-made.cpu.pc < 65536 = c.count_at.ensures.in_memory in
      subst (λ (l : List ℕ). EndsSo c.args.rules.now.regions.now (Some c.args.rules.now.outputs) start c.args.steps (record { end = c.in_ok-end.end; steps = c.loop-made.made + 1; cpu = c.make_step.new.cpu }) × CountsSteps c.args.rules.now.regions.now (Some c.args.rules.now.outputs) start (c.loop-made.made + 1) l) same
      (counted_end c.args.rules.now.regions.now c.args.rules.now.outputs start c.args.steps c.loop-made.made m _ c.in_ok-end.end c.loop-made.counts.items counted inside c.loop-made-test.true step (sym c.is_some.ensures ∙ c.if-is_some.true));
}

pub loop-made-preserved : goal.loop-made-preserved
loop-made-preserved c =
    let none = is_none c.in_ok-end.end (sym c.is_some.ensures ∙ c.if-is_some.false) in
    let same = sym c.count_at.ensures.counted in
    let inside : c.loop-made.cpu.pc < 65536 = c.count_at.ensures.in_memory in
    let within : c.loop-made.cpu.pc < length c.loop-made.counts.items = omega (arith, c.loop-made.invariant.whole, inside) in
    record {
      opened = still_open c.args.rules.now.outputs _ _ c.loop-made.invariant.opened (subst (λ (ending : Option End). PortsAfter ending c.loop-made.ports c.make_step.new.ports) none c.in_ok-end.ensures.ports);
      whole = ap length c.count_at.ensures.counted ∙ length-set c.loop-made.counts.items _ _ ∙ c.loop-made.invariant.whole;
      below = λ address. subst (λ (l : List ℕ). get_or l address 0 ≤ c.loop-made.made + 1) same (none_above c.loop-made.counts.items c.loop-made.cpu.pc c.loop-made.made c.loop-made.invariant.below within address);
      counted = λ start stays reached.
          let m : Machine = with_ports c.loop-made.cpu c.loop-made.bus c.loop-made.ports in
          let counted = c.loop-made.invariant.counted start stays reached in
          let right = right_there c.args.rules.now.regions.now c.args.rules.now.outputs start c.loop-made.made m stays counted.at in
          let step = c.in_ok-end.ensures.step right in
          subst (λ (l : List ℕ). Counted c.args.rules.now.regions.now c.args.rules.now.outputs start (c.loop-made.made + 1) (with_ports c.make_step.new.cpu c.make_step.new.bus c.make_step.new.ports) l) same
          (counted_next c.args.rules.now.regions.now c.args.rules.now.outputs start c.loop-made.made m _ c.in_ok-end.end c.loop-made.counts.items counted inside step none);
    }

pub returns : goal.returns
returns c = record {
  counted = λ start stays reached.
      counted_all c.args.rules.now.regions.now c.args.rules.now.outputs start c.args.steps c.loop-made.made _ c.loop-made.counts.items (c.loop-made.invariant.counted start stays reached) (omega (arith, c.loop-made-test.false, c.loop-made.auto.made-end));
}
