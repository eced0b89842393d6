use Rattle.std.proofs.Common.{◌+◌, ◌≤◌, arith}
use Rattle.image80.proofs.DigitLemmas.{range_is, range_words}
use Rattle.image80.proofs.entry.read_range.Goals as goal

pub returns-clause-spelled : goal.returns-clause-spelled
returns-clause-spelled c =
    range_is c.args.text.now c.in_ok-first.first c.in_ok-length.length (omega arith) (omega arith) c.in_ok-first.ensures.value c.in_ok-length.ensures.value

pub returns-then-from-gt65536-clause-none : goal.returns-then-from-gt65536-clause-none
returns-then-from-gt65536-clause-none c = λ range inside same.
    let fits : c.in_ok-first.first + c.in_ok-length.length ≤ 65536 =
    range_words range c.args.text.now c.in_ok-first.first c.in_ok-length.length inside (omega arith) (omega arith)
    (range_is c.args.text.now c.in_ok-first.first c.in_ok-length.length (omega arith) (omega arith) c.in_ok-first.ensures.value c.in_ok-length.ensures.value) same in
    omega arith
