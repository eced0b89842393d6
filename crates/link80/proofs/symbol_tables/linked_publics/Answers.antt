use Rattle.std.specs.Prelude.{◌++◌, ◌+◌, map, drop}
use Rattle.std.specs.List.{flat_map, enumerate_from}
use Rattle.std.proofs.Common.{◌∙◌, ap}
use Rattle.link80.specs.Linked.{linked_public}
use Rattle.link80.proofs.LoopLemmas.{more_numbered}
use Rattle.link80.proofs.symbol_tables.linked_publics.Goals as goal

pub loop-number-preserved : goal.loop-number-preserved
loop-number-preserved c =
    ap (λ l. l ++ flat_map (λ m. map (linked_public c.args.joined.now m) m.1.publics)
    (enumerate_from (c.loop-number.number + 1) (drop (c.loop-number.number + 1) c.args.joined.now)))
    c.in_ok-add_moved_publics.ensures
    ∙ more_numbered (λ m. map (linked_public c.args.joined.now m) m.1.publics) c.args.joined.now c.loop-number.number
    c.get.result.now c.loop-number.publics.items c.get.ensures
    ∙ c.loop-number.invariant
