use Rattle.std.specs.Prelude.{◌++◌, ◌+◌, map, drop}
use Rattle.std.proofs.Common.{◌∙◌, ap}
use Rattle.std.proofs.lemmas.Option.{slice_get_within}
use Rattle.link80.specs.Linked.{linked_public}
use Rattle.link80.proofs.LoopLemmas.{one_more}
use Rattle.link80.proofs.symbol_tables.add_moved_publics.Goals as goal

pub loop-public-preserved : goal.loop-public-preserved
loop-public-preserved c =
    ap (λ l. l ++ map (linked_public c.args.joined.now (c.args.number, c.args.source.now))
    (drop (c.loop-public.public-index + 1) c.publics-public-items.result.now)) c.in_ok-push.ensures.items
    ∙ one_more (linked_public c.args.joined.now (c.args.number, c.args.source.now)) c.publics-public-items.result.now
    c.loop-public.public-index c.public-item.result c.loop-public.publics.items
    (record { name = c.in_ok-copy.field-0; segment = c.linked_id.result; offset = c.linked_offset.result })
    c.loop-public-test.true c.public-item.is
    (λ j. record { name = c.in_ok-copy.ensures.same j; segment = c.linked_id.ensures j; offset = c.linked_offset.ensures j })
    ∙ c.loop-public.invariant

pub linked_offset-requires : goal.linked_offset-requires
linked_offset-requires c = slice_get_within c.args.joined.now c.args.number c.args.source.now c.requires
