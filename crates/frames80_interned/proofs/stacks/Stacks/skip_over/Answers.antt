use Rattle.frames80_interned.specs.Stacks.{words_at}
use Rattle.frames80_interned.proofs.SkipLemmas.{lies-on, lies-skip}
use Rattle.frames80_interned.proofs.stacks.Stacks.skip_over.Goals as goal

pub returns-then-stride-clause-skipped : goal.returns-then-stride-clause-skipped
returns-then-stride-clause-skipped c =
    let stacks = c.args.self.now in
    let first = c.in-Some.first in
    lies-on (words_at stacks c.args.below) (words_at stacks first.skip) (words_at stacks c.in-Some-top.second.skip) (lies-skip stacks c.args.below first c.in-Some.ensures.link)
    (lies-skip stacks first.skip c.in-Some-top.second c.in-Some-top.ensures.link)
