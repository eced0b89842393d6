use Rattle.std.specs.Prelude.{◌++◌, ◌+◌, map, drop}
use Rattle.std.specs.List.{AllByRecursion}
use Rattle.std.proofs.Common.{◌∙◌, ap, sym, subst}
use Rattle.link80.specs.Linked.{linked_content}
use Rattle.link80.specs.Movable.{CanBeMoved}
use Rattle.link80.proofs.LoopLemmas.{one_more, all_item}
use Rattle.link80.proofs.MovableLemmas.{can_be_moved}
use Rattle.link80.proofs.contents.add_contents.Goals as goal

pub linked_content-requires-clause-movable : goal.linked_content-requires-clause-movable
linked_content-requires-clause-movable c =
    let all = subst (AllByRecursion (CanBeMoved c.args.tables.now c.args.number c.args.source.now))
    (sym c.contents-content-items.ensures.value)
    (can_be_moved c.sound_modules_keep_rules.ensures c.args.tables.now c.args.number c.args.source.now c.requires.here
    c.requires.segments_fit c.contents-content-items.ensures.rules) in
    all_item (CanBeMoved c.args.tables.now c.args.number c.args.source.now) c.contents-content-items.result.now
    c.loop-content.content-index c.content-item.result all c.loop-content-test.true c.content-item.is

pub loop-content-preserved : goal.loop-content-preserved
loop-content-preserved c =
    ap (λ l. l ++ map (linked_content c.args.tables.now (c.args.number, c.args.source.now))
    (drop (c.loop-content.content-index + 1) c.contents-content-items.result.now)) c.in_ok-push.ensures.items
    ∙ one_more (linked_content c.args.tables.now (c.args.number, c.args.source.now)) c.contents-content-items.result.now
    c.loop-content.content-index c.content-item.result c.loop-content.contents.items c.in_ok-linked_content.field-0
    c.loop-content-test.true c.content-item.is c.in_ok-linked_content.ensures
    ∙ c.loop-content.invariant
