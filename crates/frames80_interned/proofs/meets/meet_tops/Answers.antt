use Rattle.std.specs.Prelude.{refl}
use Rattle.std.proofs.Common.{arith}
use Rattle.frames80_interned.specs.Stacks.{words_at}
use Rattle.frames80_interned.proofs.MeetLemmas.{walk_on, meeting_end}
use Rattle.frames80_interned.proofs.meets.meet_tops.Goals as goal

pub loop-link-smaller : goal.loop-link-smaller
loop-link-smaller c =
    let link = c.in-Words.ensures.one c.in-Words.link c.in-Words.other_link refl in
    link.before

pub loop-link-preserved : goal.loop-link-preserved
loop-link-preserved c =
    let stacks = c.args.stacks.now in
    let one = c.in-Words.ensures.one c.in-Words.link c.in-Words.other_link refl in
    let other = c.in-Words.ensures.other c.in-Words.link c.in-Words.other_link refl in
    let inv = c.loop-link.invariant in
    let walk = walk_on (words_at stacks c.args.pair.one) (words_at stacks c.args.pair.other) c.loop-link.words.items (words_at stacks c.loop-link.left.one) (words_at stacks c.loop-link.left.other) c.loop-link.changed
    c.is_other_word-changed.result c.in-Words.link.word c.in-Words.other_link.word c.meet-word.result (words_at stacks c.in-Words.link.below) (words_at stacks c.in-Words.other_link.below) inv.walk one.words other.words
    c.meet-word.ensures c.is_other_word-changed.ensures in
    record {
      one = let b = one.before in let t = inv.one in omega arith;
      other = let b = other.before in let t = inv.other in omega arith;
      walk = rw c.in_ok-push-in-Words.ensures.items walk;
    }

pub returns-in-Met : goal.returns-in-Met
returns-in-Met c =
    let stacks = c.args.stacks.now in
    meeting_end stacks (words_at stacks c.args.pair.one) (words_at stacks c.args.pair.other) c.loop-link.words.items c.loop-link.changed c.is_other_stack-changed.result c.loop-link.left c.in-Met.rest _ c.loop-link.invariant.walk
    (c.in-Met.ensures.met c.in-Met.rest refl) c.is_other_stack-changed.ensures refl refl refl
