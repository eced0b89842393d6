use Rattle.std.proofs.Common.{ap, arith, refl}
use Rattle.machine80.specs.declared.cpu.Cpu.{Cpu}
use Rattle.machine80_board.proofs.StepLemmas.{output_ends, output_leads}
use Rattle.machine80_board.proofs.stepping.put_out.Goals as goal

pub returns-then-len-rules-clause-turned : goal.returns-then-len-rules-clause-turned
returns-then-len-rules-clause-turned c = λ s found now fetched is_out is_next. record {
  ends = output_ends c.args.rules.now.lines.now c.args.rules.now.regions.now c.args.rules.now.outputs s c.args.running.now found c.args.port c.args.next now fetched is_out is_next
      (omega (arith, c.if-len-rules.true, c.len.ensures, c.args.running.now.outputs.ok.0));
  cpu = refl;
  outputs = refl;
}

pub returns-clause-turned : goal.returns-clause-turned
returns-clause-turned c = λ s found now fetched is_out is_next.
    output_leads c.args.rules.now.lines.now c.args.rules.now.regions.now c.args.rules.now.outputs s c.args.running.now _ found c.args.port c.args.next now fetched is_out is_next
    (omega (arith, c.if-len-rules.false, c.len.ensures, c.args.running.now.outputs.ok.0))
    (ap (λ (x : Cpu). record x { pc = c.args.next }) c.in_ok-take_output.ensures.same.cpu) c.in_ok-take_output.ensures.same.bus c.in_ok-take_output.ensures.same.cursors
    c.in_ok-take_output.ensures.taken c.in_ok-take_output.ensures.seen
