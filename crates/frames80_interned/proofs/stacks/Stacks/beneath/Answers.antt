use Rattle.std.specs.Prelude.{length}
use Rattle.std.proofs.Common.{ap, arith}
use Rattle.frames80_interned.specs.Stacks.{words_at}
use Rattle.frames80_interned.proofs.SkipLemmas.{lies-link, lies-on, lies-skip}
use Rattle.frames80_interned.proofs.stacks.Stacks.beneath.Goals as goal

pub loop-link-preserved-then-height-left : goal.loop-link-preserved-then-height-left
loop-link-preserved-then-height-left c =
    let stacks = c.args.self.now in
    let at = c.loop-link.beneath in
    let link = c.in-Some.link in
    let now = c.loop-link.invariant in
    record {
      there = let s = c.in-Some.ensures.link.skip in let t = now.there in omega arith;
      lies = lies-on (words_at stacks c.args.number) (words_at stacks at) (words_at stacks link.skip) now.lies (lies-skip stacks at link c.in-Some.ensures.link);
      enough = let h = c.height-in-Some.ensures in let t = c.if-height-left.true in omega arith;
    }

pub loop-link-preserved : goal.loop-link-preserved
loop-link-preserved c =
    let stacks = c.args.self.now in
    let at = c.loop-link.beneath in
    let link = c.in-Some.link in
    let now = c.loop-link.invariant in
    record {
      there = let s = c.in-Some.ensures.link.before in let t = now.there in omega arith;
      lies = lies-on (words_at stacks c.args.number) (words_at stacks at) (words_at stacks link.below) now.lies (lies-link stacks at link c.in-Some.ensures.link);
      enough = let w = ap length c.in-Some.ensures.link.words in let m = c.in-Some.ensures.more in omega arith;
    }
