use Rattle.std.proofs.Common.{◌∙◌, ap, sym, arith}
use Rattle.rom80_pattern.specs.Modules.{resolved}
use Rattle.rom80_pattern.proofs.NameLemmas.{target_within, external_within, external_at}
use Rattle.rom80_pattern.proofs.resolving.ResolvedModule.resolve.Goals as goal

pub index-requires : goal.index-requires
index-requires c =
    let there = target_within c.args.self.now.commons _ c.in-External.index c.args.target c.in-External.is c.requires in
    let within = external_within _ c.args.self.now c.self.inside.externals.items c.in-External.index c.self.view_is c.self.invariant there (omega arith) in
    omega (arith, within, c.from.ensures)

pub returns-in-External : goal.returns-in-External
returns-in-External c =
    let there = target_within c.args.self.now.commons _ c.in-External.index c.args.target c.in-External.is c.requires in
    external_at _ c.args.self.now c.self.inside.externals.items c.in-External.index c.from.result c.index.result.now c.self.view_is c.self.invariant there (omega arith)
    c.from.ensures c.index.ensures
    ∙ ap (resolved c.args.self.now) (sym c.in-External.is)
