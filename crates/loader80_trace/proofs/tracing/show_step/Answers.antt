use Rattle.std.proofs.Common.{◌∙◌, ◌++◌, ℕ, List, ap, sym}
use Rattle.std.specs.Prelude.{Option}
use Rattle.loader80_trace.specs.Lines.{instruction_line}
use Rattle.loader80_trace.proofs.LineLemmas.{line_seen}
use Rattle.loader80_trace.proofs.tracing.show_step.Goals as goal

pub returns-in_ok-append_line-clause-line : goal.returns-in_ok-append_line-clause-line
returns-in_ok-append_line-clause-line c = λ stays.
    c.in_ok-append_line.ensures
    ∙ ap (λ (l : List ℕ). c.args.line.now.items ++ l)
    (ap (λ (byte : Option ℕ). instruction_line c.in-Some.found.instr byte c.args.cpu.now) c.byte_seen-byte.ensures
    ∙ line_seen c.args.rules.now.regions.now _ c.in-Some.found _ c.in_ok-end.end _ (sym c.fetch-found.ensures ∙ c.in-Some.is) (c.in_ok-end.ensures.step stays).limited)
