use Rattle.std.specs.Prelude.{◌≡◌, Option, None, Some, IfNone}
use Rattle.std.proofs.Common.{ap, arith, subst, sym, ◌∙◌}
use Rattle.plm80_console.specs.NumberText.{IsWordText, word_value}
use Rattle.plm80_console.proofs.RangeLemmas.{split_of}
use Rattle.plm80_console.proofs.ranges.range_of.Goals as goal

none_from : {A P : Type 0} (r : Option A) → P → IfNone r P
none_from None p = p
none_from (Some x) p = tt

pub returns-in_err-first-clause-none : goal.returns-in_err-first-clause-none
returns-in_err-first-clause-none c =
    none_from c.from_residual.result (λ range is. split_of c.args.text.now range None c.in_err-first.ensures.cases is)

pub returns-in_err-first-2-clause-none : goal.returns-in_err-first-2-clause-none
returns-in_err-first-2-clause-none c =
    none_from c.from_residual-in_err-first-2.result
    (λ range is. let cut = split_of c.args.text.now range (Some (c.in_ok-first.first, c.in_ok-first.length)) c.in_ok-first.ensures.cases is in
    c.in_err-first-2.ensures.none (subst IsWordText (sym cut.0) is.is_first))

pub returns-in_err-length-clause-none : goal.returns-in_err-length-clause-none
returns-in_err-length-clause-none c =
    none_from c.from_residual-in_err-length.result
    (λ range is. let cut = split_of c.args.text.now range (Some (c.in_ok-first.first, c.in_ok-first.length)) c.in_ok-first.ensures.cases is in
    c.in_err-length.ensures.none (subst IsWordText (sym cut.1) is.is_length))

pub returns-then-from-gt65536-clause-none : goal.returns-then-from-gt65536-clause-none
returns-then-from-gt65536-clause-none c = λ range is.
    let cut = split_of c.args.text.now range (Some (c.in_ok-first.first, c.in_ok-first.length)) c.in_ok-first.ensures.cases is in
    let first : c.in_ok-first-2.first ≡ range.first = c.in_ok-first-2.ensures.word.1 ∙ ap word_value cut.0 ∙ sym is.first_is in
    let length : c.in_ok-length.length ≡ range.length = c.in_ok-length.ensures.word.1 ∙ ap word_value cut.1 ∙ sym is.length_is in
    omega (arith, first, length, is.in_memory, c.if-from-gt65536.true, c.from.ensures, c.from-2.ensures)
