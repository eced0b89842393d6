use Rattle.std.proofs.Common.{◌∙◌, ◌++◌, ℕ, List, ap}
use Rattle.loader80_trace.proofs.LineLemmas.{joined, registers_read}
use Rattle.loader80_trace.proofs.line.append_registers.Goals as goal

pub returns : goal.returns
returns c =
    joined c.args.line.now.items _ _ _ _ _ _ _ _ _ _ _ _ c.in_ok-append_byte.ensures c.in_ok-append_byte-2.ensures c.in_ok-append_word.ensures c.in_ok-append_word-2.ensures
    c.in_ok-append_word-3.ensures c.in_ok-append_word-4.ensures
    ∙ ap (λ (l : List ℕ). c.args.line.now.items ++ l) (registers_read c.args.cpu.now c.flags_byte.result c.pair.result c.pair-2.result c.pair-3.result c.flags_byte.ensures c.pair.ensures c.pair-2.ensures c.pair-3.ensures)
