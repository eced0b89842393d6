use Rattle.std.proofs.Common.{◌∙◌}
use Rattle.machine80.proofs.Spans.{all_code-spans, all_code-past}
use Rattle.machine80.proofs.fetching.InRangeProgram.all_code.Goals as goal

pub returns-then-first-count-le65536 : goal.returns-then-first-count-le65536
returns-then-first-count-le65536 g c =
    c.spans.ensures ∙ all_code-spans c.args.self.now.code c.args.address c.from-first.result c.args.count c.from-first.ensures c.if-first-count-le65536.true c.requires.some

pub returns-else-first-count-le65536 : goal.returns-else-first-count-le65536
returns-else-first-count-le65536 g c =
    all_code-past c.args.self.now.code c.args.address c.from-first.result c.args.count c.from-first.ensures c.if-first-count-le65536.false c.requires.some
