use Rattle.std.proofs.Common.{subst, sym, ◌<◌}
use Rattle.place80.specs.declared.placed_segments.Placed.{Placed}
use Rattle.place80.proofs.LocatedLemmas.{placed_in_word}
use Rattle.place80.proofs.located_regions.stack_range.Goals as goal

pub range_at-requires : goal.range_at-requires
range_at-requires c = subst (λ (p : Placed). p.length < 65536) (sym c.placed_in.ensures)
    (placed_in_word c.args.segments.now 3 c.requires)
