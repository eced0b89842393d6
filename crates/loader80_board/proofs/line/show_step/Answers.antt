use Rattle.std.proofs.Common.{◌∙◌, ◌++◌, Bool, ℕ, List, ap, sym}
use Rattle.std.specs.Prelude.{Option}
use Rattle.loader80_trace.specs.Lines.{instruction_line}
use Rattle.loader80_board.specs.Keeping.{byte_seen}
use Rattle.loader80_board.proofs.LineLemmas.{goes_on, line_is}
use Rattle.loader80_board.proofs.line.show_step.Goals as goal

pub returns-in_ok-append_line-clause-line : goal.returns-in_ok-append_line-clause-line
returns-in_ok-append_line-clause-line c = λ s now.
    c.in_ok-append_line.ensures
    ∙ ap (λ (l : List ℕ). c.args.line.now.items ++ l)
    (ap (λ (byte : Option ℕ). instruction_line c.in-Some.found.instr byte c.args.running.now.cpu) (c.byte_seen-byte.ensures.byte
    ∙ ap (λ (b : Bool). byte_seen c.in-Some.found.instr c.args.running.now.cpu.registers.a b c.step_on_board.new.running.cpu.registers.a) (goes_on c.in_ok-end.end c.is_none.result c.is_none.ensures))
    ∙ line_is c.args.rules.now.lines.now c.args.rules.now.regions.now c.args.rules.now.outputs s c.args.running.now c.step_on_board.new.running c.in_ok-end.end c.in-Some.found now
    (sym c.fetch-found.ensures ∙ c.in-Some.is) c.byte_seen-byte.ensures.port (c.in_ok-end.ensures.turned s now))
