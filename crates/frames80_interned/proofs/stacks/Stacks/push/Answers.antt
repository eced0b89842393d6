use Rattle.std.proofs.Common.{◌≡◌, ◌<◌, suc, List, length, ap, subst, sym, ◌∙◌, arith}
use Rattle.frames80.specs.declared.word.Word.{Word}
use Rattle.indexmap.specs.IndexMap.{get}
use Rattle.frames80_interned.specs.Stacks.{words_at, pair_eq}
use Rattle.frames80_interned.proofs.StackLemmas.{short, length-stacks_of, new_link, is_new_link, AreLinks-inserted, stays-inserted, stack-inserted}
use Rattle.frames80_interned.proofs.MetLemmas.{AreMet-inserted}
use Rattle.frames80_interned.proofs.stacks.Stacks.push.Goals as goal

pub overflow_add-link : goal.overflow_add-link
overflow_add-link c =
    let e : length c.args.self.now ≡ suc (length c.self.inside.links.keys) = ap length (sym c.self.view_is) ∙ length-stacks_of c.self.inside.links.keys in
    let s : length (words_at c.args.self.now c.args.below) < length c.args.self.now = subst (λ (s : List (List Word)). length (words_at s c.args.below) < length s) c.self.view_is (short c.self.inside.links.keys c.args.below) in
    omega (arith, c.height-height.ensures, c.len.ensures.len)

pub invariant_of-self-2 : goal.invariant_of-self-2
invariant_of-self-2 c =
    let link = new_link c.args.below c.args.word c.height-height.result c.skip_over-skip.result in
    let is_new = is_new_link c.args.self.now c.args.below c.args.word c.height-height.result c.skip_over-skip.result c.requires c.height-height.ensures c.skip_over-skip.ensures.there c.skip_over-skip.ensures.skipped in
    let stays = stays-inserted c.self.inside.links.keys c.insert_full.new.self.keys c.args.self.now link c.self.view_is is_new c.in_ok-index.ensures.keys in
    (AreLinks-inserted c.self.inside.links.keys c.insert_full.new.self.keys c.args.self.now link c.self.view_is is_new c.in_ok-index.ensures.keys c.self.invariant.0, AreMet-inserted c.self.inside.links.keys c.insert_full.new.self.keys c.args.self.now c.self.view_is stays (get pair_eq c.self.inside.met) c.self.invariant.1)

pub returns-clause-pushed : goal.returns-clause-pushed
returns-clause-pushed c =
    let link = new_link c.args.below c.args.word c.height-height.result c.skip_over-skip.result in
    let is_new = is_new_link c.args.self.now c.args.below c.args.word c.height-height.result c.skip_over-skip.result c.requires c.height-height.ensures c.skip_over-skip.ensures.there c.skip_over-skip.ensures.skipped in
    let stored = c.in_ok-index.ensures.stored in
    stack-inserted c.self.inside.links.keys c.insert_full.new.self.keys c.args.self.now link c.self.view_is is_new c.in_ok-index.ensures.keys c.self.invariant.0 c.in_ok-index.index stored.0 stored.1 stored.2

pub returns-clause-stays : goal.returns-clause-stays
returns-clause-stays c =
    let link = new_link c.args.below c.args.word c.height-height.result c.skip_over-skip.result in
    let is_new = is_new_link c.args.self.now c.args.below c.args.word c.height-height.result c.skip_over-skip.result c.requires c.height-height.ensures c.skip_over-skip.ensures.there c.skip_over-skip.ensures.skipped in
    stays-inserted c.self.inside.links.keys c.insert_full.new.self.keys c.args.self.now link c.self.view_is is_new c.in_ok-index.ensures.keys

pub invariant_of-self-in_err-note : goal.invariant_of-self-in_err-note
invariant_of-self-in_err-note c =
    let link = new_link c.args.below c.args.word c.height-height.result c.skip_over-skip.result in
    let is_new = is_new_link c.args.self.now c.args.below c.args.word c.height-height.result c.skip_over-skip.result c.requires c.height-height.ensures c.skip_over-skip.ensures.there c.skip_over-skip.ensures.skipped in
    let stays = stays-inserted c.self.inside.links.keys c.insert_full.new.self.keys c.args.self.now link c.self.view_is is_new c.in_ok-index.ensures.keys in
    (AreLinks-inserted c.self.inside.links.keys c.insert_full.new.self.keys c.args.self.now link c.self.view_is is_new c.in_ok-index.ensures.keys c.self.invariant.0, AreMet-inserted c.self.inside.links.keys c.insert_full.new.self.keys c.args.self.now c.self.view_is stays (get pair_eq c.self.inside.met) c.self.invariant.1)

pub returns-in_err-note-clause-stays : goal.returns-in_err-note-clause-stays
returns-in_err-note-clause-stays c =
    let link = new_link c.args.below c.args.word c.height-height.result c.skip_over-skip.result in
    let is_new = is_new_link c.args.self.now c.args.below c.args.word c.height-height.result c.skip_over-skip.result c.requires c.height-height.ensures c.skip_over-skip.ensures.there c.skip_over-skip.ensures.skipped in
    stays-inserted c.self.inside.links.keys c.insert_full.new.self.keys c.args.self.now link c.self.view_is is_new c.in_ok-index.ensures.keys
