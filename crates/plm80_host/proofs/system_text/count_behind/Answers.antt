use Rattle.std.proofs.Common.{sym, ◌∙◌}
use Rattle.plm80_host.proofs.SystemTextLemmas.{each_counted}
use Rattle.plm80_host.proofs.system_text.count_behind.Goals as goal

pub returns : goal.returns
returns c =
    let steps = c.in_ok-next.ensures.steps in
    each_counted c.count_of_digits.result c.args.label.now c.args.text.now c.in_ok-behind.field-0-0.now c.in_ok-behind.behind.now
    steps.0 c.in_ok-next.field-0.now c.next.new.self.rest.now
    c.in_ok-behind.ensures.cases (sym c.split_whitespace.ensures.rest ∙ steps.1) steps.3 c.count_of_digits.ensures.count
