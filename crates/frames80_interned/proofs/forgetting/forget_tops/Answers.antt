use Rattle.frames80_interned.specs.Stacks.{words_at, IsLink}
use Rattle.frames80_interned.proofs.LesserLemmas.{lesser_self, lesser_on}
use Rattle.frames80_interned.proofs.forgetting.forget_tops.Goals as goal

pub loop-link-init : goal.loop-link-init
loop-link-init c = rw c.new-words.ensures.items (record { there = c.requires; lesser = lesser_self (words_at c.args.stacks.now c.args.number) })

pub loop-link-preserved : goal.loop-link-preserved
loop-link-preserved c =
    let stacks = c.args.stacks.now in
    let link : IsLink stacks c.loop-link.rest c.in-Some.link = rw c.in-Some.is at c.top_to_forget.ensures in
    rw c.in_ok-push.ensures.items
    (lesser_on stacks (words_at stacks c.args.number) c.loop-link.words.items c.loop-link.rest c.in-Some.link.below c.in-Some.link.word c.forget_word.result c.loop-link.invariant link.words link.before c.forget_word.ensures)
