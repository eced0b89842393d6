use Rattle.std.proofs.Common.{ℕ, ◌++◌, ◌-◌, ap, arith, length, take, ◌∙◌}
use Rattle.image80.specs.RegionsText.{cases_text}
use Rattle.verify80_cases.specs.Added.{second_text}
use Rattle.verify80_cases.proofs.AddedLemmas.{text_without}
use Rattle.verify80_cases.proofs.adding.text_without_cases.Goals as goal

pub overflow_sub-len : goal.overflow_sub-len
overflow_sub-len c =
    let whole = text_without c.args.regions.now c.write_regions2.new.out.items c.in_ok-lines.lines.items
    (c.in_ok-write_regions2.ensures.ok ∙ ap (λ l. l ++ second_text c.args.regions.now) c.new-text.ensures.items)
    (c.in_ok-lines.ensures ∙ ap cases_text c.cases.ensures.cases) in
    omega (arith, whole.0, c.len.ensures, c.len-2.ensures)

pub returns : goal.returns
returns c =
    let whole = text_without c.args.regions.now c.write_regions2.new.out.items c.in_ok-lines.lines.items
    (c.in_ok-write_regions2.ensures.ok ∙ ap (λ l. l ++ second_text c.args.regions.now) c.new-text.ensures.items)
    (c.in_ok-lines.ensures ∙ ap cases_text c.cases.ensures.cases) in
    let text = c.write_regions2.new.out.items in
    c.truncate.ensures.items ∙ ap (λ (n : ℕ). take (n - c.len-2.result) text) (c.len.ensures ∙ c.write_regions2.new.out.ok.0)
    ∙ ap (λ (n : ℕ). take (length text - n) text) (c.len-2.ensures ∙ c.in_ok-lines.lines.ok.0) ∙ whole.1
