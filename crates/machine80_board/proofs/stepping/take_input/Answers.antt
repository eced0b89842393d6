use Rattle.std.proofs.Common.{rules, sym, subst, refl}
use Rattle.machine80_board.specs.Keeping.{HaveSeen}
use Rattle.machine80_board.proofs.StepLemmas.{input_ends, input_leads}
use Rattle.machine80_board.proofs.stepping.take_input.Goals as goal

pub returns-in-Some-clause-turned : goal.returns-in-Some-clause-turned
returns-in-Some-clause-turned c = λ s found now fetched is_in is_next.
    input_leads c.args.rules.now.lines.now c.args.rules.now.regions.now c.args.rules.now.outputs s c.args.running.now _ found c.args.port c.args.next c.in-Some.byte now fetched is_in is_next
    c.ranges.port.fits (search rules) (c.in-Some.ensures.answer s.reads s.outputs now.given (subst (λ l. HaveSeen l s.outputs) (sym c.deref.ensures.value) now.seen)) (c.in-Some.ensures.given s.reads now.given) refl refl refl refl

pub returns-in-None-clause-turned : goal.returns-in-None-clause-turned
returns-in-None-clause-turned c = λ s found now fetched is_in is_next. record {
  ends = input_ends c.args.rules.now.lines.now c.args.rules.now.regions.now c.args.rules.now.outputs s found c.args.port fetched is_in
      (c.in-None.ensures.answer s.reads s.outputs now.given (subst (λ l. HaveSeen l s.outputs) (sym c.deref.ensures.value) now.seen));
  cpu = refl;
  outputs = refl;
}
