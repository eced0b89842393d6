use Rattle.std.specs.Prelude.{◌≡◌, ℕ}
use Rattle.std.proofs.Common.{subst}
use Rattle.frames80_interned.specs.Stacks.{IsMet}
use Rattle.frames80_interned.proofs.MeetLemmas.{met-same}
use Rattle.frames80_interned.proofs.meets.tops.Goals as goal

pub returns-then-pair-clause-met : goal.returns-then-pair-clause-met
returns-then-pair-clause-met c = λ number is.
    let e : c.args.pair.one ≡ number = cc in
    subst (λ (n : ℕ). IsMet c.args.stacks.now c.args.pair n) e (met-same c.args.stacks.now c.args.pair c.requires.one c.if-pair.true)
