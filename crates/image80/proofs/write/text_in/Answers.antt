use Rattle.image80.proofs.WriteLemmas.{steps_are_text}
use Rattle.image80.proofs.write.text_in.Goals as goal

pub returns-clause-text : goal.returns-clause-text
returns-clause-text c =
    steps_are_text c.args.version c.args.regions.now c.in_ok-text.text.items c.push.new.self.items c.put_lines.new.text.items c.put_line.new.text.items c.put_lines-2.new.text.items c.put_cases.new.text.items
    c.heading.result.now c.as_slice.result.now c.as_slice-2.result.now c.as_slice-3.result.now c.code.result.now c.stack.result c.data_ranges.result.now c.cases.result.now
    c.in_ok-text.ensures.items c.heading.ensures c.in_ok-push.ensures.items
    c.in_ok-put_lines.ensures c.as_slice.ensures c.code.ensures.ranges c.in_ok-put_line.ensures c.as_slice-2.ensures c.stack.ensures.range c.in_ok-put_lines-2.ensures c.as_slice-3.ensures c.data_ranges.ensures.ranges
    c.in_ok-put_cases.ensures c.cases.ensures.cases
